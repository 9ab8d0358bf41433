-- The lowest place where one state is above another is such a place.
use Rattle.std.specs.Prelude.{◌≡◌, ℕ, zero, suc, ◌+◌, ◌<◌, List, Some, Option, nat_lt, slice_index, slice_index_or}
use Rattle.std.proofs.Common.{sym, ◌∙◌, ⊎_elim, arith}
use Rattle.std.proofs.lemmas.Bool.{cases_Bool, cond-true, cond-false, ltb-true}
use Rattle.model.specs.State.{above_from, lowest_above}

-- place p, counted from 1, is one where x is above y
pub record Above (x y : List ℕ) (p : ℕ) : Type 0 where
  pub index : ℕ
  pub number : p ≡ index + 1
  pub more : slice_index_or y index 0 < slice_index x index

some_from : (n k : ℕ) (x y : List ℕ) (p : ℕ) → above_from n k x y ≡ Some p → Above x y p
some_from zero k x y p e = absurd (let z : ◌≡◌ {A = ℕ} 0 1 = cc in omega arith)
some_from (suc n) k x y p e =
    ⊎_elim
    (λ t.
    let s : ◌≡◌ {A = Option ℕ} (Some (k + 1)) (Some p) = sym (cond-true (nat_lt (slice_index y k) (slice_index x k)) (Some (k + 1)) (above_from n (k + 1) x y) t) ∙ e in
    record { index = k; number = cc; more = ltb-true (slice_index y k) (slice_index x k) t })
    (λ f. some_from n (k + 1) x y p (sym (cond-false (nat_lt (slice_index y k) (slice_index x k)) (Some (k + 1)) (above_from n (k + 1) x y) f) ∙ e))
    (cases_Bool (nat_lt (slice_index y k) (slice_index x k)))

pub some_above : (x y : List ℕ) (p : ℕ) → lowest_above x y ≡ Some p → Above x y p
some_above x y p e = some_from 64 0 x y p e
