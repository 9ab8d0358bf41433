-- Laws of whole states: two that agree, one number changed, and one at or below another.
use Rattle.std.specs.Prelude.{◌≡◌, ℕ, ◌<◌, ◌≤◌, ◌≢◌, slice_set}
use Rattle.std.proofs.Common.{◌∙◌, ⊎_elim, arith}
use Rattle.std.proofs.lemmas.List.{length-set, get_or-set_same, get_or-set_other}
use Rattle.std.proofs.lemmas.Bool.{cases_eq, cases_lt}
use Rattle.model.specs.State.{Below, whole}
use Rattle.model.proofs.State.{length_whole, slice_index_whole, slice_index_whole_past, whole_is}

pub whole_same : (f g : ℕ → ℕ) → ((k : ℕ) → k < 64 → f k ≡ g k) → whole f ≡ whole g
whole_same f g h = whole_is g (whole f) (length_whole f) (λ k l. slice_index_whole f k l ∙ h k l)

pub set_whole : (f g : ℕ → ℕ) (i y : ℕ) → i < 64 → y ≡ g i → ((k : ℕ) → (k ≢ i) → f k ≡ g k) → slice_set (whole f) i y ≡ whole g
set_whole f g i y h e o =
    whole_is g (slice_set (whole f) i y) (length-set (whole f) i y ∙ length_whole f)
    (λ k l.
    ⊎_elim
    (λ s. rw s (get_or-set_same (whole f) i y 0 (omega (arith, length_whole f)) ∙ e))
    (λ s. get_or-set_other (whole f) i k y 0 s ∙ (slice_index_whole f k l ∙ o k s))
    (cases_eq k i))

pub whole_mono : (f g : ℕ → ℕ) → ((k : ℕ) → f k ≤ g k) → Below (whole f) (whole g)
whole_mono f g h k =
    ⊎_elim
    (λ l. omega (arith, slice_index_whole f k l, slice_index_whole g k l, h k))
    (λ l. omega (arith, slice_index_whole_past f k l))
    (cases_lt k 64)
