-- What a plan that was read is.
use Rattle.std.specs.Prelude.{Ok, Err, Result}
use Rattle.refusal.specs.Questions.{Told}
use Rattle.plan.specs.declared.plan.Plan.{Plan}
use Rattle.plan.specs.Check.{Timing, timing_of}
use Rattle.words.specs.declared.fault.SheetFault.{SheetFault}
use Rattle.words.specs.Faults.{sheet_refusal}
use Rattle.words.specs.declared.recorded.Recorded.{Recorded}
use Rattle.plan_sheet.specs.Plans.{PlanSaid}
use Rattle.plan_sheet.specs.Faults.{plan_refusal}
use Rattle.plan_sheet.specs.declared.fault.PlanFault.{PlanFault}

abbrev pub plan_said : Recorded Plan → PlanSaid
plan_said r = record { start = r.item.start; rows = r.item.rows; count = r.item.count; end = r.end }

-- the plan, or the refusal
abbrev pub plan_told : Result (Recorded Plan) SheetFault → Told PlanSaid
plan_told (Ok r) = Ok (plan_said r)
plan_told (Err f) = Err (sheet_refusal f)

-- the plan that the check accepts, by its start and its rows, or the refusal
abbrev pub timing_told : Result Plan PlanFault → Told Timing
timing_told (Ok p) = Ok (timing_of p)
timing_told (Err f) = Err (plan_refusal f)
