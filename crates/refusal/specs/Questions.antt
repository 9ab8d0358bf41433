-- Questions that are asked one after the other, up to the first no.
use Rattle.std.specs.Prelude.{ℕ, zero, suc, ◌+◌, Ok, Err, Result}
use Rattle.refusal.specs.declared.Refusal.{Refusal}

-- the refusal of question n at the places a and b
abbrev pub refusal : ℕ → ℕ → ℕ → Refusal
refusal n a b = record { number = n; a = a; b = b }

-- what is told where questions are asked: a value, or the refusal of the first question that was answered no
abbrev pub Told : Type 0 → Type 0
Told A = Result A Refusal

-- question n is answered no at place a
abbrev pub no : {A : Type 0} → ℕ → ℕ → Told A
no n a = Err (refusal n a 0)

-- what comes next, unless there was a no
abbrev pub then : {A B : Type 0} → Told A → (A → Told B) → Told B
then (Ok x) f = f x
then (Err e) f = Err e

-- n turns, the first numbered k, each from what the one before it left
abbrev pub turns : {S : Type 0} → (ℕ → S → Told S) → ℕ → ℕ → S → Told S
turns f zero k s = Ok s
turns f (suc n) k s = then (f k s) (turns f n (k + 1))

-- an answer told by the number and the places of its refusal
abbrev pub told_by : {A F : Type 0} → (F → Refusal) → Result A F → Told A
told_by number (Ok x) = Ok x
told_by number (Err f) = Err (number f)
