-- A number of each item of a list, as a state tells it: one for each place, and 0 past the last.
use Rattle.std.proofs.Common.{◌≡◌, ℕ, ◌-◌, ◌<◌, ◌≤◌, List, length, get_or, Some, None, Option, sym, ap, ◌∙◌, ⊎_elim, le_refl, arith}
use Rattle.std.specs.Prelude.{MatchOption}
use Rattle.std.specs.Option.{option_map, unwrap_or}
use Rattle.std.specs.Slice.{IsItemAt}
use Rattle.std.proofs.lemmas.List.{get_or_past}
use Rattle.std.proofs.lemmas.Bool.{cases_lt}
use denote.Ref.{Bor}
use Rattle.model.specs.State.{Below, whole, told}
use Rattle.model.proofs.State.{slice_index_whole_all, told_at}

item_is : {X : Type 0} (d y : X) (r : Option (Bor X)) (f : X → ℕ) (m : ℕ) → unwrap_or (option_map (λ (x : Bor X). x.now) r) d ≡ y → f d ≡ 0 → f y ≡ m → MatchOption r (m ≡ 0) (λ x. f x.now ≡ m)
item_is d y None f m e z h = sym (ap f e ∙ h) ∙ z
item_is d y (Some x) f m e z h = ap f e ∙ h

-- at most sixty-four items, and the number f, which is 0 of what stands past the last
module _ {X : Type 0} (xs : List X) (d : X) (few : length xs ≤ 64) (f : X → ℕ) (z : f d ≡ 0) where
  past : (k : ℕ) → length xs ≤ k → f (get_or xs k d) ≡ 0
  past k h = ap f (get_or_past xs k d h) ∙ z

  pub number_at : (k : ℕ) → get_or (whole (λ j. f (get_or xs j d))) k 0 ≡ f (get_or xs k d)
  number_at k = slice_index_whole_all (λ j. f (get_or xs j d)) (λ j h. past j (omega arith)) k

  pub number_past : (k : ℕ) → length xs ≤ k → get_or (whole (λ j. f (get_or xs j d))) k 0 ≡ 0
  number_past k h = number_at k ∙ past k h

  pub number_small : (m : ℕ) → ((k : ℕ) → k < length xs → f (get_or xs k d) ≤ m) → (k : ℕ) → get_or (whole (λ j. f (get_or xs j d))) k 0 ≤ m
  number_small m h k =
      ⊎_elim (λ l. omega (arith, number_at k, h k l)) (λ l. omega (arith, number_past k l)) (cases_lt k (length xs))

  -- what is told of place p, counted from 1, is the number of the item that stands there, where one does
  pub number_told : (p k : ℕ) → 1 ≤ p → k ≡ p - 1 → (r : Option (Bor X)) → IsItemAt xs k r → MatchOption r (told (whole (λ j. f (get_or xs j d))) p ≡ 0) (λ x. f x.now ≡ told (whole (λ j. f (get_or xs j d))) p)
  number_told p k h i r e =
      item_is d (get_or xs k d) r f _ (e.4 (le_refl k) d) z
      (sym (number_at k) ∙ (ap (λ j. get_or (whole (λ j'. f (get_or xs j' d))) j 0) i ∙ sym (told_at (whole (λ j. f (get_or xs j d))) p h)))

-- and a number that is nowhere above another
pub numbers_below : {X : Type 0} (xs : List X) (d : X) → length xs ≤ 64 → (f g : X → ℕ) → f d ≡ 0 → g d ≡ 0 → ((k : ℕ) → k < length xs → f (get_or xs k d) ≤ g (get_or xs k d)) → Below (whole (λ j. f (get_or xs j d))) (whole (λ j. g (get_or xs j d)))
numbers_below xs d few f g y z h k =
    ⊎_elim
    (λ l. omega (arith, number_at xs d few f y k, number_at xs d few g z k, h k l))
    (λ l. omega (arith, number_past xs d few f y k l))
    (cases_lt k (length xs))
