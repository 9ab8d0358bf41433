-- A question of which the answer was not no.
use Rattle.std.proofs.Common.{◌≡◌, ℕ, Bool, true, false, cond, Ok, refl, arith}
use Rattle.refusal.specs.Questions.{Told, no}

pub passed : {A : Type 0} (b : Bool) (n p : ℕ) (x : Told A) (r : A) → cond b x (no n p) ≡ Ok r → (b ≡ true) × (x ≡ Ok r)
passed true n p x r h = (refl, h)
passed false n p x r h = absurd (let z : ◌≡◌ {A = ℕ} 0 1 = cc in omega arith)

pub passed_not : {A : Type 0} (b : Bool) (n p : ℕ) (x : Told A) (r : A) → cond b (no n p) x ≡ Ok r → (b ≡ false) × (x ≡ Ok r)
passed_not true n p x r h = absurd (let z : ◌≡◌ {A = ℕ} 0 1 = cc in omega arith)
passed_not false n p x r h = (refl, h)
