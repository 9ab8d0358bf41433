use Rattle.model.proofs.Filled.{Filled}
use Rattle.linear.specs.Code.{lines}
use Rattle.linear.specs.Lines.{place}
use Rattle.linear.proofs.linear.as_model.LinearQueueModel.tops.Given as goal

abbrev pub invariant-loop-k : goal.invariant-loop-k
invariant-loop-k l = Filled (λ j. (place (lines l.self) j).top) l.k l.tops
