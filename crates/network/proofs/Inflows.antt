-- What the turns bring into the links, turn by turn.
use Rattle.std.proofs.Common.{◌≡◌, ℕ, ◌+◌, ◌-◌, ◌<◌, ◌≤◌, List, length, get_or, set, take, replicate, sum_by, eqb, ap, ◌∙◌, ⊎_elim, arith}
use Rattle.std.proofs.lemmas.List.{length-replicate, take_all}
use Rattle.std.proofs.lemmas.List.Sums.{sum_by_more, sum_by-take-le}
use Rattle.std.proofs.lemmas.Bool.{cond-true, cond-false, eq-eqb, ne_eqb, cases_lt}
use Rattle.model.specs.State.{whole}
use Rattle.model.proofs.State.{whole_is, slice_index_whole, slice_index_whole_past, slice_index_zeros}
use Rattle.network.specs.declared.links.Turn.{Turn}
use Rattle.network.specs.Sound.{no_turn}
use Rattle.network.specs.Network.{Roads, Sound, turned, turned_into, inflow, queue_after, amount}
use Rattle.network.specs.Bounds.{inflow_small}
use Rattle.network.specs.Whole.{set_whole}

-- what the first i turns bring into each link out of the releases o
abbrev pub brought : Roads → List ℕ → ℕ → List ℕ
brought n o i = whole (λ k. sum_by (turned_into o k) (take i n.turns))

pub brought_none : (n : Roads) (o : List ℕ) → replicate 64 0 ≡ brought n o 0
brought_none n o = whole_is _ (replicate 64 0) (length-replicate {A = ℕ} 64 0) (λ k h. slice_index_zeros 64 k)

-- one turn adds to what comes into the link that it goes to, and into no other
module _ (n : Roads) (ok : Sound n) (o : List ℕ) (i : ℕ) (h : i < length n.turns) where
  turn : Turn
  turn = get_or n.turns i no_turn

  to : ℕ
  to = turn.to - 1

  before : ℕ → ℕ
  before k = sum_by (turned_into o k) (take i n.turns)

  near : (to < 64) × (turn.to ≡ to + 1)
  unfolding turn to
  near = (omega (arith, (ok.turned i h).1.0, (ok.turned i h).1.1, ok.few), omega (arith, (ok.turned i h).1.0))

  more : (k : ℕ) → sum_by (turned_into o k) (take (i + 1) n.turns) ≡ before k + turned_into o k turn
  unfolding turn before
  more k = omega (arith, sum_by_more (turned_into o k) n.turns i no_turn h)

  pub brought_more : set (brought n o i) ((get_or n.turns i no_turn).to - 1) (get_or (brought n o i) ((get_or n.turns i no_turn).to - 1) 0 + turned o (get_or n.turns i no_turn)) ≡ brought n o (i + 1)
  unfolding turn before to
  brought_more =
      set_whole before _ to _ near.0
      (omega (arith, slice_index_whole before to near.0, more to, cond-true (eqb turn.to (to + 1)) (turned o turn) 0 (eq-eqb turn.to (to + 1) near.1)))
      (λ k e. omega (arith, more k, cond-false (eqb turn.to (k + 1)) (turned o turn) 0 (ne_eqb turn.to (k + 1) (λ s. e (omega (arith, near.1))))))

  -- and the sum stays small
  pub brought_fits : ((j : ℕ) → get_or o j 0 ≤ 100000) → get_or (brought n o i) ((get_or n.turns i no_turn).to - 1) 0 + turned o (get_or n.turns i no_turn) ≤ 25600000
  unfolding turn before to
  brought_fits s =
      omega (
        arith,
        slice_index_whole before to near.0,
        more to,
        cond-true (eqb turn.to (to + 1)) (turned o turn) 0 (eq-eqb turn.to (to + 1) near.1),
        sum_by-take-le (turned_into o to) n.turns (i + 1),
        inflow_small n ok o s to,
      )

module _ (n : Roads) (o : List ℕ) where
  -- all turns
  pub brought_all : (i : ℕ) → length n.turns ≤ i → brought n o i ≡ whole (inflow n o)
  unfolding inflow
  brought_all i h = ap (λ ts. whole (λ k. sum_by (turned_into o k) ts)) (take_all i n.turns h)

  pub inflows_small : Sound n → ((j : ℕ) → get_or o j 0 ≤ 100000) → (j : ℕ) → get_or (whole (inflow n o)) j 0 ≤ 25600000
  unfolding inflow
  inflows_small ok s j =
      ⊎_elim
      (λ h. omega (arith, slice_index_whole (inflow n o) j h, inflow_small n ok o s j))
      (λ h. omega (arith, slice_index_whole_past (inflow n o) j h))
      (cases_lt j 64)

-- the amount of a link, from what comes into each
pub amount_is : (n : Roads) (o q v i : List ℕ) → i ≡ whole (inflow n o) → (k : ℕ) → k < 64 → queue_after o q v k (get_or i k 0) ≡ amount n o q v k
unfolding amount
amount_is n o q v i e k h = ap (queue_after o q v k) (ap (λ xs. get_or xs k 0) e ∙ slice_index_whole (inflow n o) k h)
