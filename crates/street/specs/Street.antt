-- Streets: what one shows of itself, and how it moves.
use Rattle.std.specs.Prelude.{◌≡◌, ℕ, true, false, List, length}
use Rattle.model.specs.State.{Within}
use Rattle.model.specs.Model.{Meaning, Reaches, dark_row}
use Rattle.street.specs.declared.Showing.{Showing}
use Rattle.street.specs.declared.Showing.TheVariants.{Shown, Dark}

-- its queues, its row of lamps, and what arrived in the latest step
pub record Seen : Type 0 where
  pub queues : List ℕ
  pub lamps : List ℕ
  pub arrivals : List ℕ

-- the queues keep the tops and the arrivals the loads, so that both are 0 beyond the last place;
-- the lamps are a legal row, which is 0 beyond the last signal
pub record Bounded (m : Meaning) (s : Seen) : Type 0 where
  pub queues : Within s.queues m.tops
  pub row : length s.lamps ≡ 32
  pub legal : m.legal s.lamps ≡ true
  pub arrivals : Within s.arrivals m.loads

-- the lamps after a row was shown, or the street was dark
abbrev pub lamps_after : Meaning → Showing → List ℕ → List ℕ
lamps_after m Shown row = row
lamps_after m Dark row = dark_row m

-- the street was given a row: it answered shown or dark, and its queues moved
pub record Showed (m : Meaning) (row : List ℕ) (before : Seen) (answer : Showing) (after : Seen) : Type 0 where
  -- the lamps are that row if shown and the dark row if dark
  pub lamps : after.lamps ≡ lamps_after m answer row
  -- the new arrivals are within the loads
  pub arrivals : Within after.arrivals m.loads
  -- the queues are the model's next state for the lamps, the queues before and the new arrivals
  pub queues : Reaches m after.lamps before.queues after.arrivals after.queues
  -- an illegal row is never shown
  pub illegal : m.legal row ≡ false → answer ≡ Dark
