-- What the check of a plan promises.
use Rattle.std.specs.Prelude.{◌≡◌, ℕ, List, is_ok, Decides, Result}
use Rattle.refusal.specs.Questions.{told_by}
use Rattle.model.specs.Model.{Meaning}
use Rattle.plan.specs.declared.limits.Limit.{Limit}
use Rattle.plan.specs.declared.fault.CheckFault.{CheckFault}
use Rattle.plan.specs.Faults.{check_refusal}
use Rattle.plan.specs.Check.{checked, PassesRound}
use Rattle.plan.specs.Runs.{EveryRunHolds}

pub record Checked (m : Meaning) (ls : List Limit) (start : List ℕ) (rs : List (List ℕ)) (r : Result ℕ CheckFault) : Type 0 where
  -- the count of rows, or the first no of the questions along the heaviest run, with its places
  pub is : told_by check_refusal r ≡ checked m ls start rs
  -- accepted exactly where each row of the heaviest run passes and its end is at or below the start
  pub passes : Decides (is_ok r) (PassesRound m ls start rs)
  -- accepted exactly where every one-round run holds
  pub holds : Decides (is_ok r) (EveryRunHolds m ls start rs)
