-- A plan sheet that is read and checked.
use Rattle.std.specs.Prelude.{◌≡◌, ℕ, Bool, true, List, take, Ok, Decides}
use Rattle.refusal.specs.Questions.{Told, then}
use Rattle.model.specs.Model.{Meaning}
use Rattle.plan.specs.declared.limits.Limit.{Limit}
use Rattle.plan.specs.Check.{checked, Timing}
use Rattle.plan.specs.Runs.{EveryRunHolds}
use Rattle.plan_sheet.specs.Plans.{PlanSaid, plan_sheet}
use Rattle.plan_sheet.specs.Says.{Says}

-- the rows that count
abbrev pub rows_said : PlanSaid → List (List ℕ)
rows_said p = take p.count p.rows

-- the plan that was said, by its start and its rows
abbrev pub timing_said : PlanSaid → Timing
timing_said p = record { start = p.start; rows = rows_said p }

-- the plan that a sheet says for the model, or the first no
unfoldable pub reads : Meaning → List ℕ → Told Timing
reads m bs = then (plan_sheet m bs) (λ p. Ok (timing_said p))

-- the questions on the sheet, and then those on its plan: the count of its rows, or the first no
abbrev pub checked_sheet : Meaning → List Limit → List ℕ → Told ℕ
checked_sheet m ls bs = then (plan_sheet m bs) (λ p. checked m ls p.start (rows_said p))

-- the plan, where no question was answered no
abbrev pub accepted_timing : Meaning → List Limit → List ℕ → Told Timing
accepted_timing m ls bs = then (reads m bs) (λ t. then (checked m ls t.start t.rows) (λ _. Ok t))

-- an accepted sheet says a plan; and a sheet that says a plan is accepted exactly if every one-round run of the plan holds
pub record Accepts (m : Meaning) (ls : List Limit) (bs : List ℕ) (accepted : Bool) : Type 0 where
  pub says : accepted ≡ true → (p : PlanSaid) × Says m bs p
  pub holds : (p : PlanSaid) → Says m bs p → Decides accepted (EveryRunHolds m ls p.start (rows_said p))
