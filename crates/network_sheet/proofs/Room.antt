-- The room that is left for a turn.
use Rattle.std.proofs.Common.{◌≡◌, ℕ, ◌<◌, min, Bool, true, false, leb, List, length, get_or, sym, ◌∙◌, subst, zero-add, arith}
use Rattle.std.specs.Bool.{MatchBool}
use Rattle.std.specs.List.{range_with_len, AllWithin, HoldsAt}
use Rattle.std.proofs.lemmas.Bool.Decides.{nat_tests}
use Rattle.std.proofs.lemmas.List.FromFn.{get_or-range_with_len, length-range_with_len}
use Rattle.model.specs.State.{every}
use Rattle.model.proofs.State.{every_from, every_not}

-- a sum that stops at a greater number passes the same test
pub under_cap : (n m : ℕ) → 1000 < m → leb (min n m) 1000 ≡ leb n 1000
under_cap n m h = grind (arith, nat_tests)

-- the answer of `all` over the numbers below n
module _ (f : ℕ → Bool) (n : ℕ) where
  abbrev below : List ℕ
  below = range_with_len 0 n

  at : (b : Bool) (k : ℕ) → k < n → f (get_or below k 0) ≡ b → f k ≡ b
  at b k l e = subst (λ i. f i ≡ b) (get_or-range_with_len 0 n k 0 l ∙ zero-add k) e

  pub every_below : (r : Bool) → MatchBool r (AllWithin (λ k. f k ≡ true) below 0 (length below)) ((k : ℕ) × (k < length below) × HoldsAt (λ k. f k ≡ false) below k) → r ≡ every n f
  every_below true t = sym (every_from n f (λ k l. at true k l (t k 0 (omega arith) (omega (arith, length-range_with_len 0 n)))))
  every_below false t =
      let l : t.0 < n = omega (arith, t.1, length-range_with_len 0 n) in
      sym (every_not n f t.0 l (at false t.0 l (t.2 0)))
