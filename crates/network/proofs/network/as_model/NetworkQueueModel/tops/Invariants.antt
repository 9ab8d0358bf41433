use Rattle.model.proofs.Filled.{Filled}
use Rattle.network.specs.Code.{roads}
use Rattle.network.specs.Network.{link}
use Rattle.network.proofs.network.as_model.NetworkQueueModel.tops.Given as goal

abbrev pub invariant-loop-k : goal.invariant-loop-k
invariant-loop-k l = Filled (λ j. (link (roads l.self) j).top) l.k l.tops
