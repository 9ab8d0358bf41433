-- Whether a mask has only so many phases.
use Rattle.std.proofs.Common.{◌≡◌, ℕ, ◌/◌, ◌^◌, ◌<◌, ◌≤◌, eqb, ltb, Some, None, Option, sym, ap, ◌∙◌, ⊎_elim, le-div_iff_mul-le, arith, pow_pos, pow_mono}
use Rattle.std.specs.Prelude.{SomeIff}
use Rattle.std.specs.Option.{unwrap_or}
use native.Mathlib.Nat.{div-eq_of_lt}
use Rattle.std.proofs.lemmas.Bool.{cases_lt, lt-ltb, le-ltb, eq-eqb, ne_eqb}

pub shifted_out : (m p : ℕ) → eqb (m / 2 ^ p) 0 ≡ ltb m (2 ^ p)
shifted_out m p =
    ⊎_elim
    (λ h. eq-eqb (m / 2 ^ p) 0 (div-eq_of_lt h) ∙ sym (lt-ltb m (2 ^ p) h))
    (λ h.
    let some : 1 ≤ m / 2 ^ p = (le-div_iff_mul-le (pow_pos p)).1 (omega arith) in
    ne_eqb (m / 2 ^ p) 0 (λ e. omega arith) ∙ sym (le-ltb m (2 ^ p) h))
    (cases_lt m (2 ^ p))

-- what is left of the mask past p phases: nothing past the eighth
module _ (m p : ℕ) (w : m < 256) where
  pub left_out : (r : Option ℕ) → SomeIff r (p < 8) (m / 2 ^ p) → eqb (unwrap_or r 0) 0 ≡ ltb m (2 ^ p)
  left_out None s =
      let far : 2 ^ 8 ≤ 2 ^ p = pow_mono (⊎_elim (λ l. absurd (s l)) (λ l. l) (cases_lt p 8)) in
      sym (lt-ltb m (2 ^ p) (omega arith))
  left_out (Some x) s = ap (λ z. eqb z 0) s.1 ∙ shifted_out m p
