-- Laws of the lowest held place.
use Rattle.std.proofs.Common.{◌≡◌, ℕ, zero, suc, ◌<◌, Bool, true, false, cond, refl, ap, ◌∙◌, ⊎_elim, arith}
use Rattle.std.proofs.lemmas.Bool.{cases_lt}
use Rattle.model.specs.declared.Answer.{Answer}
use Rattle.model.specs.declared.Answer.TheVariants.{Clear, Held}
use Rattle.model.specs.declared.Cause.{Cause}
use Rattle.model.specs.Model.{first, lowest}

first_clear : (a b : Answer) → first a b ≡ Clear → (a ≡ Clear) × (b ≡ Clear)
first_clear Clear b e = (refl, e)
first_clear (Held p c) b e = (e, absurd (let z : ◌≡◌ {A = ℕ} 0 1 = cc in omega arith))

pub lowest_clear : (n : ℕ) (f : ℕ → Answer) → lowest n f ≡ Clear → (k : ℕ) → k < n → f k ≡ Clear
unfolding lowest
lowest_clear zero f e k h = absurd (omega arith)
lowest_clear (suc n) f e k h =
    ⊎_elim
    (λ l. lowest_clear n f (first_clear (lowest n f) (f n) e).0 k l)
    (λ g. let s : k ≡ n = omega arith in rw s (first_clear (lowest n f) (f n) e).1)
    (cases_lt k n)

pub lowest_all : (n : ℕ) (f : ℕ → Answer) → ((k : ℕ) → k < n → f k ≡ Clear) → lowest n f ≡ Clear
unfolding lowest
lowest_all zero f h = refl
lowest_all (suc n) f h = ap (λ a. first a (f n)) (lowest_all n f (λ k l. h k (omega arith))) ∙ h n (omega arith)

-- what is told is the answer of some place
pub lowest_held : (n : ℕ) (f : ℕ → Answer) (p : ℕ) (c : Cause) → lowest n f ≡ Held p c → (k : ℕ) × (k < n) × (f k ≡ Held p c)
unfolding lowest
lowest_held zero f p c e = absurd (let z : ◌≡◌ {A = ℕ} 0 1 = cc in omega arith)
lowest_held (suc n) f p c e = go (lowest n f) refl e (λ s. lowest_held n f p c s)
  where
    go : (a : Answer) → lowest n f ≡ a → first a (f n) ≡ Held p c → (lowest n f ≡ Held p c → (k : ℕ) × (k < n) × (f k ≡ Held p c)) → (k : ℕ) × (k < suc n) × (f k ≡ Held p c)
    go Clear s t below = (n, omega arith, t)
    go (Held q d) s t below = let r = below (s ∙ t) in (r.0, omega (arith, r.1), r.2)

-- the first place that is held is told
pub lowest_found : (n : ℕ) (f : ℕ → Answer) (k p : ℕ) (c : Cause) → k < n → lowest k f ≡ Clear → f k ≡ Held p c → lowest n f ≡ Held p c
unfolding lowest
lowest_found zero f k p c h e s = absurd (omega arith)
lowest_found (suc n) f k p c h e s =
    ⊎_elim
    (λ l. ap (λ a. first a (f n)) (lowest_found n f k p c l e s))
    (λ l. let same : k ≡ n = omega arith in ap (λ a. first a (f n)) (rw same at e) ∙ (rw same at s))
    (cases_lt k n)

-- a test that holds a place, and is clear
pub clear_cond : (b : Bool) (p : ℕ) (c : Cause) (a : Answer) → cond b (Held p c) a ≡ Clear → (b ≡ false) × (a ≡ Clear)
clear_cond true p c a e = absurd (let z : ◌≡◌ {A = ℕ} 0 1 = cc in omega arith)
clear_cond false p c a e = (refl, e)

-- a test that holds a place, and is held
pub held_cond : (b : Bool) (p q : ℕ) (c d : Cause) (a : Answer) → (a ≡ Held p c → p ≡ q) → cond b (Held q d) a ≡ Held p c → p ≡ q
held_cond true p q c d a f e = cc
held_cond false p q c d a f e = f e
