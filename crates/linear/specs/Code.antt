-- What the struct holds, as its meaning takes it.
use Rattle.std.specs.Prelude.{vec_items}
use Rattle.linear.specs.declared.linear.Linear.{Linear}
use Rattle.linear.specs.Lines.{Lines}

abbrev pub lines : Linear → Lines
lines n = record { modes = n.modes; places = vec_items n.places; entries = vec_items n.entries }
