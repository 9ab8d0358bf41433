use Rattle.model.proofs.Filled.{Filled}
use Rattle.linear.specs.Code.{lines}
use Rattle.linear.specs.Lines.{place}
use Rattle.linear.proofs.linear.as_model.LinearQueueModel.loads.Given as goal

abbrev pub invariant-loop-k : goal.invariant-loop-k
invariant-loop-k l = Filled (λ j. (place (lines l.self) j).load) l.k l.loads
