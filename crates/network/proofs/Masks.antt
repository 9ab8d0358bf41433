-- Whether a signal mode is in a mask.
use Rattle.std.proofs.Common.{◌≡◌, ℕ, ◌/◌, ◌%◌, ◌^◌, ◌<◌, ◌≤◌, Bool, false, eqb, Some, None, Option, sym, ap, ◌∙◌, ⊎_elim, pow_mono, arith}
use Rattle.std.specs.Prelude.{MatchOption, SomeIff}
use Rattle.std.proofs.lemmas.Bool.{cases_lt}
use Rattle.std.proofs.Math.Nat.{div-eq_of_lt}

-- whether bit i of the mask is 1: there is none past the eighth
module _ (mask i : ℕ) (b : Bool) (w : mask < 256) where
  no_bit : (i < 8 → ⊥) → eqb (mask / 2 ^ i % 2) 1 ≡ false
  no_bit n =
      let far : 2 ^ 8 ≤ 2 ^ i = pow_mono (⊎_elim (λ l. absurd (n l)) (λ l. l) (cases_lt i 8)) in
      let none : mask / 2 ^ i ≡ 0 = div-eq_of_lt (omega arith) in
      ap (λ z. eqb (z % 2) 1) none

  pub bit_shown : (r : Option ℕ) → SomeIff r (i < 8) (mask / 2 ^ i) → MatchOption r (b ≡ false) (λ x. b ≡ eqb (x % 2) 1) → b ≡ eqb (mask / 2 ^ i % 2) 1
  bit_shown None s t = t ∙ sym (no_bit s)
  bit_shown (Some x) s t = t ∙ ap (λ z. eqb (z % 2) 1) s.1
