-- Arrays that are made by a call of a closure at each index.
use Rattle.std.proofs.Common.{◌≡◌, ℕ, zero, suc, ◌+◌, ◌<◌, ◌≤◌, List, length, get_or, subst, sym, refl, ◌∙◌, ⊎_elim, arith}
use Rattle.std.specs.Fn.{Mut, Called}
use Rattle.std.specs.Array.{IsFromFnResult, IsFromFnResultFrom}
use Rattle.std.proofs.lemmas.Bool.{cases_lt}
use Rattle.model.specs.State.{whole, told}
use Rattle.model.proofs.State.{whole_is, whole_own, told_next}

-- a closure that no call changes, and that gives h i at each index i
module _ {F : Type 0} (g : Mut F (ℕ × Unit {0}) ℕ) (h : ℕ → ℕ) (f : F)
    (one : (i y : ℕ) (q : F) → Called g f (i, tt) y q → (y ≡ h i) × (q ≡ f)) where
  made_at : (ys : List ℕ) (p : F) (i n k : ℕ) → p ≡ f → IsFromFnResultFrom g p ys i n → i ≤ k → k < i + n → get_or ys k 0 ≡ h k
  made_at ys p i zero k e t a b = absurd (omega arith)
  made_at ys p i (suc n) k e t a b =
      let here = one i t.1 t.0 (subst (λ (s : F). Called g s (i, tt) t.1 t.0) e t.3) in
      ⊎_elim
      (λ l. let same : k ≡ i = omega arith in rw same (t.2.1 0 ∙ here.0))
      (λ l. made_at ys t.0 (i + 1) n k here.1 t.4 l (omega arith))
      (cases_lt k (i + 1))

  pub whole_made : (ys : List ℕ) → IsFromFnResult g f ys 64 → ys ≡ whole h
  whole_made ys t = whole_is h ys t.long (λ k l. made_at ys f 0 64 k refl t.each (omega arith) (omega arith))

-- what a closure tells of each place of a state
module _ {F : Type 0} (g : Mut F (ℕ × Unit {0}) ℕ) (xs : List ℕ) (f : F)
    (one : (i y : ℕ) (q : F) → Called g f (i, tt) y q → (y ≡ told xs (i + 1)) × (q ≡ f)) where
  pub told_made : (ys : List ℕ) → length xs ≡ 64 → IsFromFnResult g f ys 64 → ys ≡ xs
  told_made ys w t = whole_made g (λ k. get_or xs k 0) f (λ i y q c. ((one i y q c).0 ∙ told_next xs i, (one i y q c).1)) ys t ∙ sym (whole_own xs w)
