-- The release of a link is the greatest number that its wish and its turns allow.
use Rattle.std.specs.Prelude.{◌≡◌, ℕ, ◌+◌, ◌-◌, ◌*◌, ◌/◌, ◌<◌, ◌≤◌, min, List, [], ◌∷◌, length, take, fold, ◌==◌, ◌≢◌, slice_index, slice_index_or}
use Rattle.std.proofs.Math.Path.{sym}
use Rattle.std.proofs.Common.{ap, ◌∙◌, le_refl, le_trans, mul_comm, le-div_iff_mul-le, arith}
use Rattle.std.specs.List.{AllByRecursion}
use Rattle.std.proofs.ByRecursion.{All-from_get_or}
use Rattle.std.proofs.lemmas.List.Sums.{fold_more}
use Rattle.std.proofs.lemmas.Bool.{cond_both, cond-true, cond-false, eqb-true, eq-eqb, ne_eqb}
use Rattle.model.specs.State.{whole}
use Rattle.model.proofs.State.{slice_index_whole}
use Rattle.network.specs.declared.links.Turn.{Turn}
use Rattle.network.specs.Sound.{no_turn}
use Rattle.network.specs.Network.{Roads, Sound, room, passage, tightened, wish, wishes, release, releases, Fits, Greatest}
use Rattle.network.specs.Parts.{eased_by, eased}
use Rattle.network.specs.Whole.{whole_same, set_whole}

-- an amount that fits under a quotient, and the other way round
under : (m share s : ℕ) → 1 ≤ share → m ≤ s / share → share * m ≤ s
under m share s h e = rw (mul_comm share m) ((le-div_iff_mul-le h).0 e)

over : (m share s : ℕ) → 1 ≤ share → share * m ≤ s → m ≤ s / share
over m share s h e = (le-div_iff_mul-le h).1 (rw (mul_comm m share) e)

module _ (n : Roads) (q : List ℕ) (k : ℕ) where
  tightened_here : (w : ℕ) (t : Turn) → t.from ≡ k + 1 → tightened n q k w t ≡ min w (passage n q t)
  tightened_here w t e = cond-true _ _ _ (eq-eqb t.from (k + 1) e)

  tightened_other : (w : ℕ) (t : Turn) → (t.from ≢ k + 1) → tightened n q k w t ≡ w
  tightened_other w t e = cond-false _ _ _ (ne_eqb t.from (k + 1) e)

  tightened_le : (w : ℕ) (t : Turn) → tightened n q k w t ≤ w
  tightened_le w t =
      cond_both (t.from == k + 1) (min w (passage n q t)) w (λ x. x ≤ w) (λ e. omega arith) (λ e. omega arith)

  folded_le : (ts : List Turn) (w : ℕ) → fold (tightened n q k) w ts ≤ w
  folded_le [] w = le_refl w
  folded_le (t ∷ ts) w = le_trans (folded_le ts (tightened n q k w t)) (tightened_le w t)

  folded_fits : (ts : List Turn) (w m : ℕ) → AllByRecursion (λ t. 1 ≤ t.share) ts → m ≤ fold (tightened n q k) w ts → AllByRecursion (Fits n q k m) ts
  folded_fits [] w m ss h = tt
  folded_fits (t ∷ ts) w m ss h = (
    λ e. under m t.share (t.supply * room n q t) ss.0 (here e),
    folded_fits ts (tightened n q k w t) m ss.1 h,
  )
    where
      here : t.from ≡ k + 1 → m ≤ passage n q t
      here e = omega (arith, folded_le ts (tightened n q k w t), tightened_here w t e)

  folded_most : (ts : List Turn) (w m : ℕ) → AllByRecursion (λ t. 1 ≤ t.share) ts → m ≤ w → AllByRecursion (Fits n q k m) ts → m ≤ fold (tightened n q k) w ts
  folded_most [] w m ss h fs = h
  folded_most (t ∷ ts) w m ss h fs =
      folded_most ts (tightened n q k w t) m ss.1
      (cond_both (t.from == k + 1) (min w (passage n q t)) w (λ x. m ≤ x)
      (λ e. omega (arith, over m t.share (t.supply * room n q t) ss.0 (fs.0 (eqb-true t.from (k + 1) e))))
      (λ e. h))
      fs.1

pub release_greatest : (n : Roads) → Sound n → (r q : List ℕ) (k : ℕ) → Greatest n r q k (release n r q k)
unfolding release
release_greatest n ok r q k =
    record {
      below = folded_le n q k n.turns (wish n r q k);
      fits = folded_fits n q k n.turns (wish n r q k) _ shares (le_refl _);
      most = λ j h fs. folded_most n q k n.turns (wish n r q k) j shares h fs;
    }
  where
    shares : AllByRecursion (λ t. 1 ≤ t.share) n.turns
    shares = All-from_get_or (λ t. 1 ≤ t.share) n.turns no_turn (λ i h. (ok.turned i h).2.0)

-- what each link lets out after the first i turns
abbrev pub eased_to : Roads → List ℕ → List ℕ → ℕ → List ℕ
eased_to n q w i = whole (λ k. fold (tightened n q k) (slice_index w k) (take i n.turns))

-- one turn lowers the release of the link that it leaves, and of no other
module _ (n : Roads) (ok : Sound n) (q w : List ℕ) (i : ℕ) (h : i < length n.turns) where
  turn : Turn
  turn = slice_index_or n.turns i no_turn

  before : ℕ → ℕ
  before k = fold (tightened n q k) (slice_index w k) (take i n.turns)

  from : ℕ
  from = turn.from - 1

  near : (from < 64) × (turn.from ≡ from + 1)
  unfolding turn from
  near = (omega (arith, (ok.turned i h).0.0, (ok.turned i h).0.1, ok.few), omega (arith, (ok.turned i h).0.0))

  more : (k : ℕ) → fold (tightened n q k) (slice_index w k) (take (i + 1) n.turns) ≡ tightened n q k (before k) turn
  unfolding turn before
  more k = fold_more (tightened n q k) (slice_index w k) n.turns i no_turn h

  pub eased_more : eased_by n q (slice_index_or n.turns i no_turn) (eased_to n q w i) ≡ eased_to n q w (i + 1)
  unfolding turn before from
  eased_more =
      set_whole before _ from _ near.0
      (ap (λ m. min m (passage n q turn)) (slice_index_whole before from near.0) ∙ (sym (tightened_here n q from (before from) turn near.1) ∙ sym (more from)))
      (λ k e. sym (tightened_other n q k (before k) turn (λ s. e (omega (arith, near.1)))) ∙ sym (more k))

-- from the wishes come the releases
pub eased_wishes : (n : Roads) (r q : List ℕ) → eased n q (wishes n r q) ≡ releases n r q
unfolding eased wishes release releases
eased_wishes n r q =
    whole_same (λ k. fold (tightened n q k) (slice_index (whole (wish n r q)) k) n.turns) (release n r q)
    (λ k h. ap (λ w. fold (tightened n q k) w n.turns) (slice_index_whole (wish n r q) k h))
