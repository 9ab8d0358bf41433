-- The lowest held link is the first that is found held.
use Rattle.std.proofs.Common.{◌≡◌, ℕ, ◌<◌, ◌≤◌, ◌≢◌, List, map, length, get_or, Some, None, Option, sym, ◌∙◌, refl, zero-add, arith}
use Rattle.std.specs.Prelude.{MatchOption}
use Rattle.std.specs.Option.{unwrap_or}
use Rattle.std.specs.List.{range_with_len, AllWithin, HoldsAt}
use Rattle.std.proofs.lemmas.List.FromFn.{length-map-range_with_len, get_or-map-range_with_len}
use Rattle.model.specs.declared.Answer.{Answer}
use Rattle.model.specs.declared.Answer.TheVariants.{Clear, Held}
use Rattle.model.specs.Model.{lowest}
use Rattle.model.proofs.Answers.{lowest_all, lowest_found}

module _ (n : ℕ) (f : ℕ → Answer) where
  abbrev pub verdicts : List Answer
  verdicts = map f (range_with_len 0 n)

  at : (k : ℕ) → k < n → get_or verdicts k Clear ≡ f k
  at k h = get_or-map-range_with_len f 0 n k k Clear h (zero-add k)

  clear_below : (i : ℕ) → i ≤ n → AllWithin (λ a. a ≡ Clear) verdicts 0 i → (k : ℕ) → k < i → f k ≡ Clear
  clear_below i l h k m = sym (at k (omega arith)) ∙ h k Clear (omega arith) m

  found : (a : Answer) (i : ℕ) → a ≢ Clear → i < n → f i ≡ a → lowest i f ≡ Clear → a ≡ lowest n f
  found Clear i g h e b = absurd (g refl)
  found (Held p c) i g h e b = sym (lowest_found n f i p c h b e)

  pub lowest_first : (r : Option Answer)
      → MatchOption r (AllWithin (λ a. a ≡ Clear) verdicts 0 (length verdicts)) (λ a. (a ≢ Clear) × (i : ℕ) × (i < length verdicts) × HoldsAt (λ y. y ≡ a) verdicts i × AllWithin (λ y. y ≡ Clear) verdicts 0 i)
      → unwrap_or r Clear ≡ lowest n f
  lowest_first None h = sym (lowest_all n f (clear_below n (omega arith) (rw (length-map-range_with_len f 0 n) at h)))
  lowest_first (Some a) h =
      let l : h.1 < n = omega (arith, h.2, length-map-range_with_len f 0 n) in
      found a h.1 h.0 l (sym (at h.1 l) ∙ h.3 Clear) (lowest_all h.1 f (clear_below h.1 (omega arith) h.4))
