-- Laws of states: what stands at each place of a state that is made whole or capped, and a test at every number.
use Rattle.std.proofs.Common.{◌≡◌, ℕ, zero, suc, ◌+◌, ◌-◌, ◌<◌, ◌≤◌, min, Bool, true, false, ltb, leb, List, length, get_or, replicate, Some, None, Option, sym, refl, ap, ◌∙◌, ⊎_elim, zero-add, add-one, arith}
use mathlib.Core.Path.{fun_ext}
use Rattle.std.proofs.lemmas.List.{get_or_past, get_or-replicate, length-replicate}
use Rattle.std.proofs.lemmas.List.FromFn.{length-map-range_with_len, get_or-map-range_with_len, fill_by_all}
use Rattle.std.proofs.lemmas.Bool.{cases_Bool, cond-true, cond-false, le-ltb, ltb-false, cases_lt, both_ways, and_parts, and_from, le-leb, leb-true}
use Rattle.model.specs.State.{Below, whole, capped, every, told, fits_row, above_from, lowest_above}

pub length_whole : (f : ℕ → ℕ) → length (whole f) ≡ 64
unfolding whole
length_whole f = length-map-range_with_len f 0 64

pub slice_index_whole : (f : ℕ → ℕ) (k : ℕ) → k < 64 → get_or (whole f) k 0 ≡ f k
unfolding whole
slice_index_whole f k h = get_or-map-range_with_len f 0 64 k k 0 h (zero-add k)

pub slice_index_whole_past : (f : ℕ → ℕ) (k : ℕ) → 64 ≤ k → get_or (whole f) k 0 ≡ 0
slice_index_whole_past f k h = get_or_past (whole f) k 0 (omega (arith, length_whole f))

-- a function that is 0 past the last place
pub slice_index_whole_all : (f : ℕ → ℕ) → ((k : ℕ) → 64 ≤ k → f k ≡ 0) → (k : ℕ) → get_or (whole f) k 0 ≡ f k
slice_index_whole_all f z k =
    ⊎_elim (λ h. slice_index_whole f k h) (λ h. slice_index_whole_past f k h ∙ sym (z k h)) (cases_lt k 64)

pub whole_is : (f : ℕ → ℕ) (xs : List ℕ) → length xs ≡ 64 → ((k : ℕ) → k < 64 → get_or xs k 0 ≡ f k) → xs ≡ whole f
unfolding whole
whole_is f xs n h = fill_by_all f xs 64 0 n h

-- a list of sixty-four numbers is the state with its own numbers
pub whole_own : (xs : List ℕ) → length xs ≡ 64 → xs ≡ whole (λ k. get_or xs k 0)
whole_own xs n = whole_is (λ k. get_or xs k 0) xs n (λ k h. refl)

pub length_capped : (b x : List ℕ) → length (capped b x) ≡ 64
unfolding capped
length_capped b x = length_whole _

module _ (b : List ℕ) (few : length b ≤ 64) where
  pub slice_index_capped : (x : List ℕ) (k : ℕ) → get_or (capped b x) k 0 ≡ min (get_or x k 0) (get_or b k 0)
  unfolding capped
  slice_index_capped x k =
      slice_index_whole_all (λ j. min (get_or x j 0) (get_or b j 0)) (λ j h. omega (arith, get_or_past b j 0 (omega arith))) k

  pub capped_capped : (x : List ℕ) → capped b (capped b x) ≡ capped b x
  unfolding capped
  capped_capped x = ap whole (fun_ext (λ k. omega (arith, slice_index_capped x k)))

  -- numbers within the bounds stay as they are
  pub capped_own : (x : List ℕ) → length x ≡ 64 → Below x b → capped b x ≡ x
  unfolding capped
  capped_own x n h = ap whole (fun_ext (λ k. omega (arith, h k))) ∙ sym (whole_own x n)

  pub told_capped : (x : List ℕ) (p : ℕ) → told (capped b x) p ≡ min (told x p) (told b p)
  told_capped x zero = refl
  told_capped x (suc k) = slice_index_capped x k

  pub capped_below : (x : List ℕ) → Below (capped b x) b
  capped_below x k = omega (arith, slice_index_capped x k)

  pub capped_mono : (x y : List ℕ) → Below x y → Below (capped b x) (capped b y)
  capped_mono x y h k = omega (arith, slice_index_capped x k, slice_index_capped y k, h k)

pub slice_index_zeros : (n k : ℕ) → get_or (replicate {A = ℕ} n 0) k 0 ≡ 0
slice_index_zeros n k = ⊎_elim (λ h. get_or-replicate n k 0 0 h) (λ h. get_or_past (replicate n 0) k 0 (omega (arith, length-replicate {A = ℕ} n 0))) (cases_lt k n)

pub every_from : (n : ℕ) (f : ℕ → Bool) → ((k : ℕ) → k < n → f k ≡ true) → every n f ≡ true
unfolding every
every_from zero f h = refl
every_from (suc n) f h = and_from (every n f) (f n) (every_from n f (λ k l. h k (omega arith))) (h n (omega arith))

pub every_at : (n : ℕ) (f : ℕ → Bool) → every n f ≡ true → (k : ℕ) → k < n → f k ≡ true
unfolding every
every_at zero f e k h = absurd (omega arith)
every_at (suc n) f e k h =
    ⊎_elim
    (λ l. every_at n f (and_parts (every n f) (f n) e).0 k l)
    (λ g. let s : k ≡ n = omega arith in rw s (and_parts (every n f) (f n) e).1)
    (cases_lt k n)

pub every_not : (n : ℕ) (f : ℕ → Bool) (k : ℕ) → k < n → f k ≡ false → every n f ≡ false
every_not n f k h e = go (every n f) refl
  where
    go : (b : Bool) → every n f ≡ b → b ≡ false
    go false s = refl
    go true s = absurd (both_ways (f k) e (every_at n f s k h))

pub told_at : (xs : List ℕ) (p : ℕ) → 0 < p → told xs p ≡ get_or xs (p - 1) 0
told_at xs zero h = absurd (omega arith)
told_at xs (suc k) h = let e : k ≡ suc k - 1 = omega arith in ap (λ j. get_or xs j 0) e

pub told_next : (xs : List ℕ) (k : ℕ) → told xs (k + 1) ≡ get_or xs k 0
told_next xs k = rw add-one refl

-- what is told of a place beyond the last, where there is nothing
pub told_none : (xs : List ℕ) (n p : ℕ) → (1 ≤ p → n < p) → ((k : ℕ) → n ≤ k → get_or xs k 0 ≡ 0) → told xs p ≡ 0
told_none xs n zero h z = refl
told_none xs n (suc k) h z = z k (omega (arith, h (omega arith)))

pub zeros_fit : (modes : List ℕ) → fits_row modes (replicate 32 0) ≡ true
zeros_fit modes = every_from 32 _ (λ k h. le-leb _ _ (omega (arith, slice_index_zeros 32 k)))

pub fits_end : (modes r : List ℕ) → fits_row modes r ≡ true → (j : ℕ) → length modes ≤ j → j < 32 → get_or r j 0 ≡ 0
fits_end modes r e j h l =
    omega (arith, leb-true _ _ (every_at 32 (λ i. leb (get_or r i 0) (get_or modes i 0)) e j l), get_or_past modes j 0 h)

some_not_none : {P : Type 0} (p : ℕ) → ◌≡◌ {A = Option ℕ} (Some p) None → P
some_not_none p e = let z : ◌≡◌ {A = ℕ} 0 1 = cc in absurd (omega arith)

-- none of n places from k on is above
none_from : (n k : ℕ) (x y : List ℕ) → above_from n k x y ≡ None → (j : ℕ) → k ≤ j → j < k + n → get_or x j 0 ≤ get_or y j 0
none_from zero k x y e j h l = absurd (omega arith)
none_from (suc n) k x y e j h l =
    ⊎_elim
    (λ t. some_not_none (k + 1) (sym (cond-true (ltb (get_or y k 0) (get_or x k 0)) (Some (k + 1)) (above_from n (k + 1) x y) t) ∙ e))
    (λ f.
    let rest : above_from n (k + 1) x y ≡ None = sym (cond-false (ltb (get_or y k 0) (get_or x k 0)) (Some (k + 1)) (above_from n (k + 1) x y) f) ∙ e in
    ⊎_elim
    (λ s. let same : j ≡ k = omega arith in rw same (ltb-false (get_or y k 0) (get_or x k 0) f))
    (λ s. none_from n (k + 1) x y rest j (omega arith) (omega arith))
    (cases_lt j (k + 1)))
    (cases_Bool (ltb (get_or y k 0) (get_or x k 0)))

from_none : (n k : ℕ) (x y : List ℕ) → Below x y → above_from n k x y ≡ None
from_none zero k x y h = refl
from_none (suc n) k x y h = cond-false _ _ _ (le-ltb (get_or y k 0) (get_or x k 0) (h k)) ∙ from_none n (k + 1) x y h

-- no place is above exactly where the one state is at or below the other
pub none_above : (x y : List ℕ) → length x ≡ 64 → lowest_above x y ≡ None → Below x y
none_above x y w e k =
    ⊎_elim
    (λ l. none_from 64 0 x y e k (omega arith) (omega arith))
    (λ l. omega (arith, get_or_past x k 0 (omega arith)))
    (cases_lt k 64)

pub below_none : (x y : List ℕ) → Below x y → lowest_above x y ≡ None
below_none x y h = from_none 64 0 x y h
