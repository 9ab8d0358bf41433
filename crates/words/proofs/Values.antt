-- What a numeral writes, digit by digit.
use Rattle.std.proofs.Common.{◌≡◌, ℕ, zero, suc, ◌+◌, ◌-◌, ◌*◌, ◌^◌, ◌<◌, ◌≤◌, true, List, [], ◌∷◌, length, get_or, take, sym, refl, ap, ◌∙◌, arith, length-take, rules}
use Rattle.std.specs.Str.Parse.{digits_value, AllDigits}
use Rattle.std.specs.Char.{digit_value as digitValue}
use Rattle.std.specs.Int.{IsInRange}
use Rattle.std.proofs.lemmas.Bool.{and_parts, and_from, leb-true}
use Rattle.std.proofs.lemmas.Bool.Decides.{nat_tests}
use Rattle.std.proofs.lemmas.Int.Digits.{digits_value_more}
use Rattle.std.proofs.lemmas.Str.Parse.{IsNumeralModel, digit_at, digits_value_short, numerals_by_value}
use Rattle.words.specs.Words.{digit, digits, numeral}

digit_value : (b : ℕ) → digit b ≡ true → digitValue b < 10
digit_value b h = grind (arith, nat_tests)

-- the test tells that all are digits
pub all_digits : (bs : List ℕ) → digits bs ≡ true → AllDigits 10 bs
all_digits [] h = tt
all_digits (b ∷ bs) h = let p = and_parts _ _ h in (digit_value b p.0, all_digits bs p.1)

digits_take : (n : ℕ) (bs : List ℕ) → digits bs ≡ true → digits (take n bs) ≡ true
digits_take zero bs h = refl
digits_take (suc n) [] h = refl
digits_take (suc n) (b ∷ bs) h = let p = and_parts _ _ h in and_from _ _ p.0 (digits_take n bs p.1)

-- the shelf's laws of numerals hold of these digits
pub own : IsNumeralModel (λ ds. digits ds ≡ true) (digits_value 10)
own = numerals_by_value _ (search rules)

in_value : (c : ℕ) → IsInRange 48 57 c → digitValue c ≡ c - 48
in_value c h = grind (arith, nat_tests)

pub record Step (bs : List ℕ) (i n : ℕ) : Type 0 where
  pub low : 48 ≤ get_or bs i 0
  pub fits : n * 10 + (get_or bs i 0 - 48) < 2 ^ 32
  pub more : n * 10 + (get_or bs i 0 - 48) ≡ digits_value 10 (take (i + 1) bs)

pub value_step : (bs : List ℕ) (i n : ℕ) → numeral bs ≡ true → i < length bs → n ≡ digits_value 10 (take i bs) → Step bs i n
value_step bs i n num h e =
    let p = and_parts _ _ num in
    let short : length bs ≤ 9 = leb-true _ _ (and_parts _ _ (and_parts _ _ p.1).1).0 in
    let ds = all_digits bs p.0 in
    let d = digit_at bs i ds h in
    let more : n * 10 + (get_or bs i 0 - 48) ≡ digits_value 10 (take (i + 1) bs) = ap (λ m. m * 10 + (get_or bs i 0 - 48)) e ∙ ap (λ m. digits_value 10 (take i bs) * 10 + m) (sym (in_value _ d)) ∙ sym (digits_value_more 10 bs i h) in
    let bound : digits_value 10 (take (i + 1) bs) < 10 ^ 9 = digits_value_short own (take (i + 1) bs) 9 (digits_take (i + 1) bs p.0) (simp length-take (omega arith)) in
    record { low = d.0; fits = omega arith; more = more }
