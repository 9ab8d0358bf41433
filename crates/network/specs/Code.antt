-- What the struct holds, as its meaning takes it.
use Rattle.std.specs.Prelude.{vec_items}
use Rattle.network.specs.declared.network.Network.{Network}
use Rattle.network.specs.Network.{Roads}

abbrev pub roads : Network → Roads
roads n = record { phases = vec_items n.phases; links = vec_items n.links; turns = vec_items n.turns }
