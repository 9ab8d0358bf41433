use Rattle.std.proofs.Common.{◌≡◌}
use Rattle.network.specs.Code.{roads}
use Rattle.network.specs.Easing.{eased_to}
use Rattle.network.proofs.network.Network.releases.Given as goal

abbrev pub invariant-loop-turn : goal.invariant-loop-turn
invariant-loop-turn l = l.out ≡ eased_to (roads l.self) l.queues l.asked l.turn-index
