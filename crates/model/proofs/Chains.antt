-- What chains over states and rows come to: a test at every number, and the lowest place above.
use Rattle.std.proofs.Common.{◌≡◌, ℕ, zero, suc, ◌+◌, ◌-◌, ◌<◌, Bool, true, false, ltb, List, length, get_or, Some, None, Option, subst, sym, ap, ◌∙◌, zero-add, arith}
use Rattle.std.specs.Bool.{MatchBool}
use Rattle.std.specs.Option.{MatchOption, option_map}
use Rattle.std.specs.List.{zip, enumerate_from, AllWithin, HoldsAt}
use Rattle.std.proofs.lemmas.Bool.{cond-true, cond-false}
use Rattle.std.proofs.lemmas.Slice.Zip.{get_or-zip, length-zip}
use Rattle.std.proofs.lemmas.List.FromFn.{get_or-enumerate_from, length-enumerate_from}
use Rattle.model.specs.State.{every, above_from}
use Rattle.model.proofs.State.{every_from, every_not}

-- the answer of `all` over the numbers of a list with their indices
module _ (h : ℕ → ℕ → Bool) (xs : List ℕ) (n : ℕ) (size : length xs ≡ n) where
  at : (b : Bool) (k : ℕ) → k < n → h (get_or (enumerate_from 0 xs) k (0, 0)).0 (get_or (enumerate_from 0 xs) k (0, 0)).1 ≡ b → h k (get_or xs k 0) ≡ b
  at b k l e = ap (λ i. h i (get_or xs k 0)) (sym (zero-add k)) ∙ subst (λ (p : ℕ × ℕ). h p.0 p.1 ≡ b) (get_or-enumerate_from 0 xs k (0, 0) (omega (arith, size))) e

  pub every_all : (r : Bool)
      → MatchBool r (AllWithin (λ p. h p.0 p.1 ≡ true) (enumerate_from 0 xs) 0 (length (enumerate_from 0 xs))) ((k : ℕ) × (k < length (enumerate_from 0 xs)) × HoldsAt (λ p. h p.0 p.1 ≡ false) (enumerate_from 0 xs) k)
      → r ≡ every n (λ j. h j (get_or xs j 0))
  every_all true t = sym (every_from n _ (λ k l. at true k l (t k (0, 0) (omega arith) (omega (arith, length-enumerate_from 0 xs, size)))))
  every_all false t =
      let l : t.0 < n = omega (arith, t.1, length-enumerate_from 0 xs, size) in
      sym (every_not n _ t.0 l (at false t.0 l (t.2 (0, 0))))

-- the answer of `position` over the numbers of two states side by side
module _ (x y : List ℕ) (n : ℕ) (wide : length x ≡ n) (long : length y ≡ n) where
  abbrev Above : Bool → ℕ × ℕ → Type 0
  Above b p = ltb p.1 p.0 ≡ b

  here : (b : Bool) (k : ℕ) → k < n → Above b (get_or (zip x y) k (0, 0)) → ltb (get_or y k 0) (get_or x k 0) ≡ b
  here b k l e = subst (Above b) (get_or-zip x y k (0, 0) (omega (arith, wide)) (omega (arith, long))) e

  none_yet : (k m : ℕ) → k + m ≡ n → ((j : ℕ) → j < k → ltb (get_or y j 0) (get_or x j 0) ≡ false) → above_from n 0 x y ≡ above_from m k x y
  none_yet zero m e h = let same : n ≡ m = omega arith in ap (λ i. above_from i 0 x y) same
  none_yet (suc k) m e h =
      none_yet k (suc m) (omega arith) (λ j l. h j (omega arith))
      ∙ (cond-false _ _ _ (h k (omega arith)) ∙ (let same : k + 1 ≡ suc k = omega arith in ap (λ i. above_from m i x y) same))

  found : (k m : ℕ) → k + suc m ≡ n → ltb (get_or y k 0) (get_or x k 0) ≡ true → above_from (suc m) k x y ≡ Some (k + 1)
  found k m e t = cond-true _ _ _ t

  pub above_zip : (r : Option ℕ)
      → MatchOption r (AllWithin (Above false) (zip x y) 0 (length (zip x y))) (λ i. (i < length (zip x y)) × HoldsAt (Above true) (zip x y) i × AllWithin (Above false) (zip x y) 0 i)
      → option_map (λ k. k + 1) r ≡ above_from n 0 x y
  above_zip None t =
      sym (none_yet n 0 (omega arith) (λ j l. here false j l (t j (0, 0) (omega arith) (omega (arith, length-zip x y, wide, long)))))
  above_zip (Some k) t =
      let l : k < n = omega (arith, t.0, length-zip x y, wide, long) in
      let e : k + suc (n - (k + 1)) ≡ n = omega arith in
      sym (none_yet k (suc (n - (k + 1))) e (λ j m. here false j (omega arith) (t.2 j (0, 0) (omega arith) m)) ∙ found k (n - (k + 1)) e (here true k l (t.1 (0, 0))))
