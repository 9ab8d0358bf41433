-- The verdict on an input.
use Rattle.std.specs.Prelude.{◌≡◌, ℕ, cond, ◌⊎◌, List, drop, Ok, Err, Result}
use Rattle.std.specs.declared.alloc.AllocError.{AllocError}
use Rattle.refusal.specs.Questions.{Told, then}
use Rattle.words.specs.Faults.{sheet_refusal}
use Rattle.records.specs.declared.fault.ModelFault.{ModelFault}
use Rattle.records.specs.declared.fault.ModelFault.TheVariants.{Sheet, Memory}
use Rattle.model.specs.Model.{Meaning}
use Rattle.network.specs.Network.{network}
use Rattle.linear.specs.Lines.{linear}
use Rattle.plan.specs.Runs.{EveryRunHolds}
use Rattle.plan_sheet.specs.Plans.{PlanSaid}
use Rattle.plan_sheet.specs.Says.{Says as SaysPlan}
use Rattle.plan_sheet.specs.Accepts.{checked_sheet, rows_said}
use Rattle.model_sheet.specs.Content.{Content, told_meant, Means}
use Rattle.network_sheet.specs.Network.{network_sheet}
use Rattle.network_sheet.specs.Says.{Says as SaysNetwork}
use Rattle.linear_sheet.specs.Linear.{begins_linear, linear_sheet}
use Rattle.linear_sheet.specs.Says.{Says as SaysLinear}
use Rattle.verdict.specs.declared.verdict.Verdict.{Verdict}
use Rattle.verdict.specs.declared.verdict.Verdict.TheVariants.{Shelved, Refused}

abbrev pub verdict_of : Told ℕ → Verdict
verdict_of (Ok rows) = Shelved rows
verdict_of (Err r) = Refused r

-- the verdict where no model was read: the sheet's refusal, or the error that came
abbrev pub Faulted : ModelFault → Result Verdict AllocError → Type 0
Faulted (Sheet f) r = r ≡ Ok (Refused (sheet_refusal f))
Faulted (Memory e) r = r ≡ Err e

-- the questions on a model sheet, then those on the plan sheet after it, then those on the plan
abbrev pub verdict_after : Told (Content Meaning) → List ℕ → Verdict
verdict_after sheet bs = verdict_of (then sheet (λ c. checked_sheet c.model c.limits (drop c.end bs)))

abbrev pub network_verdict : List ℕ → Verdict
network_verdict bs = verdict_after (told_meant network (network_sheet bs)) bs

abbrev pub linear_verdict : List ℕ → Verdict
linear_verdict bs = verdict_after (told_meant linear (linear_sheet bs)) bs

abbrev pub verdict_on : List ℕ → Verdict
verdict_on bs = cond (begins_linear bs) (linear_verdict bs) (network_verdict bs)

-- the first words say a network that means this, with these limits, up to there
abbrev pub NetworkSaid : List ℕ → Content Meaning → Type 0
NetworkSaid bs = Means network (SaysNetwork bs)

-- the same of a linear model
abbrev pub LinearSaid : List ℕ → Content Meaning → Type 0
LinearSaid bs = Means linear (SaysLinear bs)

abbrev pub ModelSaid : List ℕ → Content Meaning → Type 0
ModelSaid bs c = LinearSaid bs c ⊎ NetworkSaid bs c

-- an input that says a model with its limits and then a plan of so many rows whose every one-round run holds
pub record Holds (Said : Content Meaning → Type 0) (bs : List ℕ) (rows : ℕ) : Type 0 where
  pub sheet : Content Meaning
  pub plan : PlanSaid
  pub says_model : Said sheet
  pub says_plan : SaysPlan sheet.model (drop sheet.end bs) plan
  pub every_run : EveryRunHolds sheet.model sheet.limits plan.start (rows_said plan)
  pub count : plan.count ≡ rows

-- `shelved` with a count of rows is said exactly of such an input
pub record Right (Said : Content Meaning → Type 0) (bs : List ℕ) (v : Verdict) : Type 0 where
  pub only : (rows : ℕ) → v ≡ Shelved rows → Holds Said bs rows
  pub always : (rows : ℕ) → Holds Said bs rows → v ≡ Shelved rows
