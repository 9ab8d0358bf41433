use Rattle.std.proofs.Common.{◌≡◌}
use Rattle.network.specs.Code.{roads}
use Rattle.network.proofs.Inflows.{brought}
use Rattle.network.proofs.network.Network.inflows.Given as goal

abbrev pub invariant-loop-turn : goal.invariant-loop-turn
invariant-loop-turn l = l.inflows ≡ brought (roads l.self) l.out l.turn-index
