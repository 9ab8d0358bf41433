-- One question, or one turn, after another.
use Rattle.std.proofs.Common.{◌≡◌, ℕ, suc, ◌+◌, ◌-◌, ◌<◌, Ok, Err, sym, refl, ap, ◌∙◌, arith}
use Rattle.refusal.specs.declared.Refusal.{Refusal}
use Rattle.refusal.specs.Questions.{Told, then, turns}

pub then_ok : {A B : Type 0} (f : A → Told B) {r : Told A} {x : A} → r ≡ Ok x → then r f ≡ f x
then_ok f e = ap (λ r. then r f) e

pub then_err : {A B : Type 0} (f : A → Told B) {r : Told A} {d : Refusal} → r ≡ Err d → then r f ≡ Err d
then_err f e = ap (λ r. then r f) e

-- what an accepted step came from
pub then_parts : {A B : Type 0} (r : Told A) (f : A → Told B) (y : B) → then r f ≡ Ok y → (x : A) × (r ≡ Ok x) × (f x ≡ Ok y)
then_parts (Ok x) f y h = (x, refl, h)
then_parts (Err e) f y h = absurd (let z : ◌≡◌ {A = ℕ} 0 1 = cc in omega arith)

pub ok_same : {A : Type 0} {x y : A} → ◌≡◌ {A = Told A} (Ok x) (Ok y) → x ≡ y
ok_same e = cc

module _ {S : Type 0} (f : ℕ → S → Told S) (n k : ℕ) (s : S) where
  opened : k < n → turns f (n - k) k s ≡ then (f k s) (turns f (n - (k + 1)) (k + 1))
  opened h = let e : n - k ≡ suc (n - (k + 1)) = omega arith in ap (λ m. turns f m k s) e

  pub turns_more : (t : S) → k < n → f k s ≡ Ok t → turns f (n - k) k s ≡ turns f (n - (k + 1)) (k + 1) t
  turns_more t h e = opened h ∙ ap (λ r. then r (turns f (n - (k + 1)) (k + 1))) e

  pub turns_stop : (d : Refusal) → k < n → f k s ≡ Err d → turns f (n - k) k s ≡ Err d
  turns_stop d h e = opened h ∙ ap (λ r. then r (turns f (n - (k + 1)) (k + 1))) e

-- the same with the invariant in hand: what is left of the loop comes to `all`
module _ {S : Type 0} (f : ℕ → S → Told S) (n k : ℕ) (s : S) (all : Told S) (inv : turns f (n - k) k s ≡ all) (on : k < n) where
  pub goes_on : {A : Type 0} {read : Told A} {x : A} (put : A → Told S) (t : S) → Ok x ≡ read → f k s ≡ then read put → put x ≡ Ok t → turns f (n - (k + 1)) (k + 1) t ≡ all
  goes_on put t e is made = sym (turns_more f n k s t on (is ∙ then_ok put (sym e) ∙ made)) ∙ inv

  pub breaks_off : {A : Type 0} {read : Told A} {d : Refusal} (put : A → Told S) → Err d ≡ read → f k s ≡ then read put → Err d ≡ all
  breaks_off put e is = sym (turns_stop f n k s _ on (is ∙ then_err put (sym e))) ∙ inv
