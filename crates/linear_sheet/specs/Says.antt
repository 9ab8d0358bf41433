-- What a linear model sheet says by its words alone.
use Rattle.std.specs.Prelude.{ℕ, ◌≤◌, List, length, codes, decimal}
use Rattle.words.specs.Spelling.{Next}
use Rattle.records.specs.Sections.{Section}
use Rattle.limit_sheet.specs.Limits.{LimitSaid}
use Rattle.linear_sheet.specs.Places.{PlaceSaid, EntrySaid, entry_count}
use Rattle.model_sheet.specs.Content.{Content}
use Rattle.linear.specs.Lines.{Lines}

-- the section of the modes stands from place `at` on and ends at `to`: its word and their count
pub record ModesSaid (bs : List ℕ) (at modes to : ℕ) : Type 0 where
  pub named : ℕ
  pub word_stands : Next bs at (codes "modes") named
  pub count_stands : Next bs named (decimal modes) to
  pub some : 1 ≤ modes
  pub few : modes ≤ 8

-- a sheet of at most 65,535 bytes whose words, up to its end, are those of the linear model and the limits
pub record Says (bs : List ℕ) (c : Content Lines) : Type 0 where
  pub short : length bs ≤ 65535
  pub modes_end : ℕ
  pub places_end : ℕ
  pub entries_end : ℕ
  pub modes : ModesSaid bs 0 c.model.modes modes_end
  pub places : Section (PlaceSaid bs) bs modes_end (codes "places") 1 16 c.model.places places_end
  pub entries : Section (EntrySaid bs) bs places_end (codes "entries") (entry_count c.model.modes (length c.model.places)) (entry_count c.model.modes (length c.model.places)) c.model.entries entries_end
  pub limits : Section (LimitSaid bs (length c.model.places)) bs entries_end (codes "limits") 0 32 c.limits c.end
