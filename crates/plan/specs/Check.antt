-- The check: the heaviest run of a plan, which begins at the start and has arrivals equal to the loads.
use Rattle.std.specs.Prelude.{◌≡◌, ℕ, ◌+◌, List, [], ◌∷◌, length, take, Some, None, Ok, Err, Option}
use Rattle.refusal.specs.Questions.{Told, then, refusal}
use Rattle.model.specs.declared.Answer.{Answer}
use Rattle.model.specs.declared.Answer.TheVariants.{Clear, Held}
use Rattle.model.specs.Model.{Meaning, cause_number}
use Rattle.model.specs.State.{Below, lowest_above}
use Rattle.plan.specs.declared.limits.Limit.{Limit}
use Rattle.plan.specs.declared.plan.Plan.{Plan}
use Rattle.plan.specs.Limits.{Keeps, first_broken}

-- the rows of a plan
abbrev pub rows_of : Plan → List (List ℕ)
rows_of p = take p.count p.rows

-- what a plan says: its start and its rows
pub record Timing : Type 0 where
  pub start : List ℕ
  pub rows : List (List ℕ)

abbrev pub timing_of : Plan → Timing
timing_of p = record { start = p.start; rows = rows_of p }

-- at row n: question 13 on the limits, then 14 on cause 1 and 15 on cause 2; without a no, the state after the row
abbrev pub ask_row : ℕ → Option ℕ → Answer → List ℕ → Told (List ℕ)
ask_row n (Some limit) a after = Err (refusal 13 n limit)
ask_row n None (Held place cause) after = Err (refusal (13 + cause_number cause) n place)
ask_row n None Clear after = Ok after

abbrev pub check_row : Meaning → List Limit → ℕ → List ℕ → List ℕ → Told (List ℕ)
check_row m ls n r x = ask_row n (first_broken ls x) (m.answer r x m.loads) (m.next r x m.loads)

-- the rows from row n on, from the state x
abbrev pub check_rows : Meaning → List Limit → ℕ → List ℕ → List (List ℕ) → Told (List ℕ)
check_rows m ls n x [] = Ok x
check_rows m ls n x (r ∷ rs) = then (check_row m ls n r x) (λ y. check_rows m ls (n + 1) y rs)

-- question 16, after n rows
abbrev pub ask_end : ℕ → Option ℕ → Told ℕ
ask_end n (Some place) = Err (refusal 16 n place)
ask_end n None = Ok n

-- the count of rows, or the first no
abbrev pub checked : Meaning → List Limit → List ℕ → List (List ℕ) → Told ℕ
checked m ls start rs = then (check_rows m ls 0 start rs) (λ x. ask_end (length rs) (lowest_above x start))

-- where the heaviest run ends
abbrev pub round_end : Meaning → List ℕ → List (List ℕ) → List ℕ
round_end m x [] = x
round_end m x (r ∷ rs) = round_end m (m.next r x m.loads) rs

-- each row of the heaviest run finds every limit kept, and is clear
abbrev pub Passes : Meaning → List Limit → List ℕ → List (List ℕ) → Type 0
Passes m ls x [] = Unit {0}
Passes m ls x (r ∷ rs) = Keeps ls x × (m.answer r x m.loads ≡ Clear) × Passes m ls (m.next r x m.loads) rs

-- and the end is at or below the start
abbrev pub PassesRound : Meaning → List Limit → List ℕ → List (List ℕ) → Type 0
PassesRound m ls start rs = Passes m ls start rs × Below (round_end m start rs) start
