-- Going through the turns for the share of a pair of links.
use Rattle.std.proofs.Common.{◌≡◌, ℕ, zero, suc, ◌<◌, List, [], ◌∷◌, length, get_or, Some, None, Option, refl, sym, ap, ◌∙◌, ⊎_elim, arith}
use Rattle.std.specs.List.{find}
use Rattle.std.specs.Option.{option_map}
use Rattle.std.proofs.lemmas.Bool.{cond-true, cond-false, cases_Bool, and_parts, and_from, eqb-true, eq-eqb}
use Rattle.network.specs.declared.links.Turn.{Turn}
use Rattle.network.specs.Sound.{no_turn}
use Rattle.network.specs.Network.{joins, share_of, Turns, ShareTold}

module _ (a b : ℕ) where
  -- the share of the first turn that is found
  pub share_found : (ts : List Turn) → option_map (λ t. t.share) (find (λ t. joins t a b) ts) ≡ share_of ts a b
  share_found [] = refl
  share_found (t ∷ ts) =
      ⊎_elim
      (λ j. ap (option_map (λ t. t.share)) (cond-true (joins t a b) (Some t) (find (λ t. joins t a b) ts) j) ∙ sym (cond-true (joins t a b) (Some t.share) (share_of ts a b) j))
      (λ n. ap (option_map (λ t. t.share)) (cond-false (joins t a b) (Some t) (find (λ t. joins t a b) ts) n) ∙ (share_found ts ∙ sym (cond-false (joins t a b) (Some t.share) (share_of ts a b) n)))
      (cases_Bool (joins t a b))

  -- one turn more in front
  later : (t : Turn) (ts : List Turn) (s : ℕ) → Turns ts a b s → Turns (t ∷ ts) a b s
  later t ts s u = record { index = suc u.index; inside = omega (arith, u.inside); from = u.from; to = u.to; share = u.share }

  joined_by : (ts : List Turn) (s : ℕ) → share_of ts a b ≡ Some s → Turns ts a b s
  joined_by [] s e = absurd (let z : ◌≡◌ {A = ℕ} 0 1 = cc in omega arith)
  joined_by (t ∷ ts) s e =
      ⊎_elim
      (λ j.
      let p = and_parts _ _ j in
      let same : t.share ≡ s = cc (cond-true (joins t a b) (Some t.share) (share_of ts a b) j, e) in
      record { index = 0; inside = omega arith; from = eqb-true t.from a p.0; to = eqb-true t.to b p.1; share = same })
      (λ n. later t ts s (joined_by ts s (sym (cond-false (joins t a b) (Some t.share) (share_of ts a b) n) ∙ e)))
      (cases_Bool (joins t a b))

  apart_at : (ts : List Turn) (k : ℕ) → k < length ts → (get_or ts k no_turn).from ≡ a → (get_or ts k no_turn).to ≡ b → share_of ts a b ≡ None → ⊥
  apart_at [] k h f g e = omega arith
  apart_at (t ∷ ts) zero h f g e =
      let j = and_from _ _ (eq-eqb t.from a f) (eq-eqb t.to b g) in
      let z : ◌≡◌ {A = ℕ} 0 1 = cc (cond-true (joins t a b) (Some t.share) (share_of ts a b) j, e) in
      omega arith
  apart_at (t ∷ ts) (suc k) h f g e =
      ⊎_elim
      (λ j. let z : ◌≡◌ {A = ℕ} 0 1 = cc (cond-true (joins t a b) (Some t.share) (share_of ts a b) j, e) in omega arith)
      (λ n. apart_at ts k (omega arith) f g (sym (cond-false (joins t a b) (Some t.share) (share_of ts a b) n) ∙ e))
      (cases_Bool (joins t a b))

  pub share_told : (ts : List Turn) (r : Option ℕ) → r ≡ share_of ts a b → ShareTold ts a b r
  share_told ts r e =
      record {
        joined = λ s h. joined_by ts s (sym e ∙ h);
        apart = λ h s u. apart_at ts u.index u.inside u.from u.to (sym e ∙ h);
      }
