-- Where an area stands in a spell, and where it stands after a step.
use Rattle.std.specs.Prelude.{ℕ, List}
use Rattle.model.specs.Model.{Meaning}
use Rattle.street.specs.declared.Showing.{Showing}
use Rattle.street.specs.Street.{lamps_after}
use Rattle.plan.specs.declared.limits.Limit.{Limit}
use Rattle.plan.specs.Limits.{first_broken}
use Rattle.lives.specs.declared.state.State.{State}
use Rattle.lives.specs.declared.state.State.TheVariants.{OffLine}
use Rattle.lives.specs.Area.{row_after, cover_after, state_after, envelope_in}
use Rattle.area.specs.declared.area.Position.{Position}

-- off line an area is at row 0, and the envelope is the tops
abbrev pub off_line : Meaning → Position
off_line m = record { state = OffLine; row = 0; envelope = m.tops }

-- at this row, with the envelope that the state allows
abbrev pub standing : Meaning → State → ℕ → List ℕ → Position
standing m state row x = record { state = state; row = row; envelope = envelope_in m state x }

-- from a covered area, under these lamps
abbrev pub covered_after : Meaning → List Limit → List ℕ → Position → ℕ → Position
covered_after m ls lamps p row =
    let next = m.next lamps p.envelope m.loads in
    standing m (cover_after p.row (m.answer lamps p.envelope m.loads) (first_broken ls next)) row next

-- after a step with this row, of so many rows, that the street answered in this way
abbrev pub position_after : Meaning → List Limit → List ℕ → ℕ → Showing → Position → Position
position_after m ls row count s p =
    let lamps = lamps_after m s row in
    standing m (state_after m ls lamps p.row p.envelope p.state) (row_after s p.row count) (m.next lamps p.envelope m.loads)
