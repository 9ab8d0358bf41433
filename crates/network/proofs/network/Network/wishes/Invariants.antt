use Rattle.model.proofs.Filled.{Filled}
use Rattle.network.specs.Code.{roads}
use Rattle.network.specs.Network.{wish}
use Rattle.network.proofs.network.Network.wishes.Given as goal

abbrev pub invariant-loop-k : goal.invariant-loop-k
invariant-loop-k l = Filled (wish (roads l.self) l.row l.queues) l.k l.wishes
