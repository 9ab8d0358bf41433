-- The refusal of each fault of a plan sheet.
use Rattle.refusal.specs.declared.Refusal.{Refusal}
use Rattle.words.specs.Faults.{sheet_refusal}
use Rattle.plan.specs.Faults.{check_refusal}
use Rattle.plan_sheet.specs.declared.fault.PlanFault.{PlanFault}
use Rattle.plan_sheet.specs.declared.fault.PlanFault.TheVariants.{Sheet, Check}

abbrev pub plan_refusal : PlanFault → Refusal
plan_refusal (Sheet f) = sheet_refusal f
plan_refusal (Check f) = check_refusal f
