-- Areas: what one knows, and how a step moves it.
use Rattle.std.specs.Prelude.{ℕ, zero, suc, ◌+◌, cond, List, [], length, replicate, Some, None, Option, nat_lt, slice_index_or}
use Rattle.model.specs.declared.Answer.{Answer}
use Rattle.model.specs.declared.Answer.TheVariants.{Clear, Held}
use Rattle.model.specs.Model.{Meaning, dark_row}
use Rattle.street.specs.declared.Showing.{Showing}
use Rattle.street.specs.declared.Showing.TheVariants.{Shown, Dark}
use Rattle.street.specs.Street.{Seen, lamps_after}
use Rattle.plan.specs.declared.limits.Limit.{Limit}
use Rattle.plan.specs.Limits.{first_broken}
use Rattle.plan.specs.Check.{Timing}
use Rattle.lives.specs.declared.state.Loss.TheVariants.{PlaceHeld, LimitBroken}
use Rattle.lives.specs.declared.state.State.{State}
use Rattle.lives.specs.declared.state.State.TheVariants.{OffLine, Covered, Lost}

-- What an area knows without looking at its street: its shelf, its state, the shelf number of the plan on line
-- (0 where none is), the current row, counted from 0, and the envelope.
pub record Book : Type 0 where
  pub shelf : List (Option Timing)
  pub state : State
  pub on : ℕ
  pub row : ℕ
  pub envelope : List ℕ

-- an area: its number, its book, and what its street shows of itself
pub record Area : Type 0 where
  pub number : ℕ
  pub book : Book
  pub street : Seen

-- what stands under a shelf number; the numbers are 1 to 8
abbrev pub slot : List (Option Timing) → ℕ → Option Timing
slot shelf zero = None
slot shelf (suc k) = slice_index_or shelf k None

abbrev pub rows_in : Option Timing → List (List ℕ)
rows_in None = []
rows_in (Some p) = p.rows

abbrev pub start_in : Option Timing → List ℕ
start_in None = []
start_in (Some p) = p.start

-- the rows of the plan on line
abbrev pub rows_on : Book → List (List ℕ)
rows_on b = rows_in (slot b.shelf b.on)

abbrev pub current_row : Meaning → Book → List ℕ
current_row m b = slice_index_or (rows_on b) b.row (dark_row m)

-- a fresh area is off line, with nothing on its shelf
abbrev pub fresh_book : Meaning → Book
fresh_book m = record { shelf = replicate 8 None; state = OffLine; on = 0; row = 0; envelope = m.tops }

-- the row after this one, from the last to row 0; a dark step stays
abbrev pub row_after : Showing → ℕ → ℕ → ℕ
row_after Shown row count = cond (nat_lt (row + 1) count) (row + 1) 0
row_after Dark row count = row

-- cover after a row, by the answer and the first broken limit for the envelope and the loads: held comes before limit
abbrev pub cover_after : ℕ → Answer → Option ℕ → State
cover_after row (Held place cause) broken = Lost (PlaceHeld row place)
cover_after row Clear (Some limit) = Lost (LimitBroken row limit)
cover_after row Clear None = Covered

-- the state after a step under these lamps, from this row and this envelope: what is lost stays lost
abbrev pub state_after : Meaning → List Limit → List ℕ → ℕ → List ℕ → State → State
state_after m ls lamps row x OffLine = OffLine
state_after m ls lamps row x Covered = cover_after row (m.answer lamps x m.loads) (first_broken ls (m.next lamps x m.loads))
state_after m ls lamps row x (Lost loss) = Lost loss

-- without cover the envelope is the tops
abbrev pub envelope_in : Meaning → State → List ℕ → List ℕ
envelope_in m OffLine x = m.tops
envelope_in m Covered x = x
envelope_in m (Lost loss) x = m.tops

-- the book after a step that the street answered in this way
abbrev pub stepped : Meaning → List Limit → Showing → Book → Book
stepped m ls s b =
    let lamps = lamps_after m s (current_row m b) in
    let state = state_after m ls lamps b.row b.envelope b.state in
    record {
      shelf = b.shelf;
      state = state;
      on = b.on;
      row = row_after s b.row (length (rows_on b));
      envelope = envelope_in m state (m.next lamps b.envelope m.loads);
    }
