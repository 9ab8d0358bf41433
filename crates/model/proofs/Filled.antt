-- A state that is filled place by place, as far as there is something to fill it with.
use Rattle.std.proofs.Common.{◌≡◌, ℕ, ◌+◌, ◌<◌, ◌≤◌, List, length, get_or, set, replicate, sym, ◌∙◌, ⊎_elim, arith}
use Rattle.std.proofs.lemmas.List.{length-replicate, length-set, get_or-set_same, get_or-set_other}
use Rattle.std.proofs.lemmas.Bool.{cases_lt}
use Rattle.model.specs.State.{whole}
use Rattle.model.proofs.State.{whole_is, slice_index_zeros}

-- xs has the number f k at each place below i, and 0 at the others
pub record Filled (f : ℕ → ℕ) (i : ℕ) (xs : List ℕ) : Type 0 where
  pub size : length xs ≡ 64
  pub done : (k : ℕ) → k < i → get_or xs k 0 ≡ f k
  pub rest : (k : ℕ) → i ≤ k → get_or xs k 0 ≡ 0

pub filled_none : (f : ℕ → ℕ) → Filled f 0 (replicate 64 0)
filled_none f =
    record {
      size = length-replicate {A = ℕ} 64 0;
      done = λ k h. absurd (omega arith);
      rest = λ k h. slice_index_zeros 64 k;
    }

pub filled_more : (f : ℕ → ℕ) (i : ℕ) (xs : List ℕ) (y : ℕ) → i < 64 → y ≡ f i → Filled f i xs → Filled f (i + 1) (set xs i y)
filled_more f i xs y h e t =
    record {
      size = length-set xs i y ∙ t.size;
      done = λ k l.
          ⊎_elim
          (λ s. get_or-set_other xs i k y 0 (omega arith) ∙ t.done k s)
          (λ s. let same : k ≡ i = omega arith in rw same (get_or-set_same xs i y 0 (omega (arith, t.size)) ∙ e))
          (cases_lt k i);
      rest = λ k l. get_or-set_other xs i k y 0 (omega arith) ∙ t.rest k (omega arith);
    }

-- a function that is 0 from n on
pub filled_all : (f : ℕ → ℕ) (n : ℕ) (xs : List ℕ) → Filled f n xs → ((k : ℕ) → n ≤ k → f k ≡ 0) → xs ≡ whole f
filled_all f n xs t z =
    whole_is f xs t.size (λ k h. ⊎_elim (λ l. t.done k l) (λ l. t.rest k l ∙ sym (z k l)) (cases_lt k n))
