-- States and rows: lists of numbers, 0 past their end.
use Rattle.std.specs.Prelude.{◌≡◌, ℕ, zero, suc, ◌+◌, ◌≤◌, min, Bool, true, cond, ◌&&◌, List, map, length, Some, None, Option, nat_le, nat_lt, slice_index}
use Rattle.std.specs.List.{range_with_len}

-- at or below another at every place
abbrev pub Below : List ℕ → List ℕ → Type 0
Below x y = (k : ℕ) → slice_index x k ≤ slice_index y k

-- sixty-four numbers, at or below y everywhere
pub record Within (x y : List ℕ) : Type 0 where
  pub size : length x ≡ 64
  pub below : Below x y

-- the state with the number f k at each of the sixty-four places
unfoldable pub whole : (ℕ → ℕ) → List ℕ
whole f = map f (range_with_len 0 64)

-- each number of x, or the bound where it is above that
unfoldable pub capped : List ℕ → List ℕ → List ℕ
capped bounds x = whole (λ k. min (slice_index x k) (slice_index bounds k))

-- the number of a place, counted from 1; 0 out of range
abbrev pub told : List ℕ → ℕ → ℕ
told xs zero = 0
told xs (suc k) = slice_index xs k

-- the test f passes at each number below n
unfoldable pub every : ℕ → (ℕ → Bool) → Bool
every zero f = true
every (suc n) f = every n f && f n

-- each signal shows mode 0 or one of its modes, and there is nothing beyond the last signal
abbrev pub fits_row : List ℕ → List ℕ → Bool
fits_row modes r = every 32 (λ j. nat_le (slice_index r j) (slice_index modes j))

-- the first of n places, the first numbered k + 1, where x is above y
abbrev pub above_from : ℕ → ℕ → List ℕ → List ℕ → Option ℕ
above_from zero k x y = None
above_from (suc n) k x y = cond (nat_lt (slice_index y k) (slice_index x k)) (Some (k + 1)) (above_from n (k + 1) x y)

-- the lowest place, counted from 1, where x is above y
abbrev pub lowest_above : List ℕ → List ℕ → Option ℕ
lowest_above x y = above_from 64 0 x y
