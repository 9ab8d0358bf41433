use Rattle.area_trials.specs.Duty.{OnDuty}
use Rattle.area_trials.proofs.tests.spell.try_calls.Given as goal

abbrev pub invariant-loop-called : goal.invariant-loop-called
invariant-loop-called g l = OnDuty g.S.Street.seen l.area l.duty
