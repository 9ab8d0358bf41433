-- A row is clear exactly where no top cuts a value off, and where none does for more none does for less.
use Rattle.std.specs.Prelude.{◌≡◌, ℕ, ◌+◌, ◌<◌, ◌≤◌, Bool, true, false, cond, List, [], ◌∷◌, map, length, Some, None, sum, Option, ◌==◌, nat_lt, slice_index, refl}
use Rattle.std.proofs.Common.{sym, ◌∙◌, le_refl, le_trans}
use Rattle.std.proofs.Math.Path.{ap}
use Rattle.std.proofs.Math.Logic.{⊎_elim}
use Rattle.std.proofs.Math.Nat.{mul-le-mul_left}
use native.Mathlib.Omega.{arith}
use Rattle.std.specs.List.{range_with_len}
use Rattle.std.proofs.lemmas.List.Sums.{sum_by-cons}
use Rattle.std.proofs.lemmas.Bool.{cases_lt}
use Rattle.model.specs.declared.Answer.{Answer}
use Rattle.model.specs.declared.Answer.TheVariants.{Clear}
use Rattle.model.specs.State.{Below}
use Rattle.model.proofs.State.{capped_mono, none_above, below_none}
use Rattle.linear.specs.Lines.{Lines, Sound, tops, part, line_sum, units, amount, amounts, mode, moved, cut_off, judged, Fits, ClearWhereFits, linear}
use Rattle.linear.specs.Sizes.{length_tops, length_amounts, slice_index_tops, slice_index_amounts, inside_at, inside_past}

none_cut : (o : Option ℕ) → cut_off o ≡ Clear → o ≡ None
none_cut None e = refl
none_cut (Some p) e = absurd (let z : ◌≡◌ {A = ℕ} 0 1 = cc in omega arith)

-- the amount of a place
amount_at : (n : Lines) → Sound n → (m : ℕ) (x v : List ℕ) (k : ℕ) → k < length n.places → slice_index (amounts n m x v) k ≡ amount n m x v k
amount_at n ok m x v k h = slice_index_amounts n ok m x v k ∙ inside_at n k h (amount n m x v)

module _ (n : Lines) (ok : Sound n) (r x v : List ℕ) where
  pub clear_fits : judged n r x v ≡ Clear → Fits n r x v
  unfolding judged
  clear_fits e k h =
      omega (
        arith,
        none_above (amounts n (mode r) x v) (tops n) (length_amounts n (mode r) x v) (none_cut _ e) k,
        amount_at n ok (mode r) x v k h,
        slice_index_tops n ok k,
      )

  pub fits_clear : Fits n r x v → judged n r x v ≡ Clear
  unfolding judged
  fits_clear f = ap cut_off (below_none (amounts n (mode r) x v) (tops n) below)
    where
      below : Below (amounts n (mode r) x v) (tops n)
      below k =
          ⊎_elim
          (λ h. omega (arith, f k h, amount_at n ok (mode r) x v k h, slice_index_tops n ok k))
          (λ h. omega (arith, slice_index_amounts n ok (mode r) x v k, inside_past n k h (amount n (mode r) x v)))
          (cases_lt k (length n.places))

-- what is told is clear exactly where no top cuts a value off
pub fits_exactly : (n : Lines) → Sound n → (r x v : List ℕ) (a : Answer) → a ≡ (linear n).answer r x v → ClearWhereFits n r x v a
fits_exactly n ok r x v a e =
    record { fits = λ c. clear_fits n ok _ _ _ (sym e ∙ c); clear = λ f. e ∙ fits_clear n ok _ _ _ f }

sum_mono : (f g : ℕ → ℕ) → ((j : ℕ) → f j ≤ g j) → (js : List ℕ) → sum (map f js) ≤ sum (map g js)
sum_mono f g h [] = le_refl 0
sum_mono f g h (j ∷ js) =
    omega (arith, sum_by-cons (λ y. y) (f j) (map f js), sum_by-cons (λ y. y) (g j) (map g js), h j, sum_mono f g h js)

module _ (n : Lines) (m : ℕ) (x y : List ℕ) (h : Below x y) where
  line_mono : (i : ℕ) → line_sum n m x i ≤ line_sum n m y i
  unfolding line_sum
  line_mono i = sum_mono (part n m x i) (part n m y i) (λ j. mul-le-mul_left _ (h j)) (range_with_len 0 (length n.places))

  amount_mono : (v w : List ℕ) → Below v w → (k : ℕ) → amount n m x v k ≤ amount n m y w k
  unfolding amount
  amount_mono v w g k = go (m == 0)
    where
      go : (b : Bool) → cond b (slice_index x k) (units (line_sum n m x k)) + slice_index v k ≤ cond b (slice_index y k) (units (line_sum n m y k)) + slice_index w k
      go true = omega (arith, h k, g k)
      go false = omega (arith, line_mono k, g k)

module _ (n : Lines) (ok : Sound n) (r x y v w : List ℕ) (h : Below x y) (g : Below v w) where
  amounts_mono : Below (amounts n (mode r) x v) (amounts n (mode r) y w)
  amounts_mono k = rw (slice_index_amounts n ok (mode r) x v k, slice_index_amounts n ok (mode r) y w k) (go (nat_lt k (length n.places)))
    where
      go : (b : Bool) → cond b (amount n (mode r) x v k) 0 ≤ cond b (amount n (mode r) y w k) 0
      go true = amount_mono n (mode r) x y h v w g k
      go false = le_refl 0

  -- the order law
  pub order_clear : judged n r y w ≡ Clear → judged n r x v ≡ Clear
  order_clear c = fits_clear n ok r x v (λ k l. le_trans (amount_mono n (mode r) x y h v w g k) (clear_fits n ok r y w c k l))

  pub order_next : Below (moved n r x v) (moved n r y w)
  unfolding moved
  order_next = capped_mono (tops n) (omega (arith, length_tops n)) _ _ amounts_mono
