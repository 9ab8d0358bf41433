-- What a plan sheet says, by its words.
use Rattle.std.specs.Prelude.{◌≡◌, ℕ, ◌≤◌, true, List, ◌∷◌, ◌++◌, map, length, replicate, Ok, codes, decimal}
use Rattle.std.specs.List.{flat_map, AllByRecursion}
use Rattle.refusal.specs.Questions.{Told}
use Rattle.model.specs.Model.{Meaning}
use Rattle.words.specs.Spelling.{Spelled}
use Rattle.words.specs.Tables.{written, tabled, UpTo}
use Rattle.plan_sheet.specs.Plans.{PlanSaid, top_of}

-- a mode from 0 to 8 for each signal, legal as a row
pub record RowOf (m : Meaning) (modes : List ℕ) : Type 0 where
  pub each : length modes ≡ m.signals
  pub within : UpTo (λ _. 8) 0 modes
  pub legal : m.legal (tabled 32 modes) ≡ true

-- the words of each section: the section word, its count and its records
abbrev pub start_words : List ℕ → List (List ℕ)
start_words queues = codes "start" ∷ decimal (length queues) ∷ map decimal queues

abbrev pub rows_words : List (List ℕ) → List (List ℕ)
rows_words rows = codes "rows" ∷ decimal (length rows) ∷ flat_map (map decimal) rows

-- the rows as a table of 64, with zeros beyond the last mode and the last row
abbrev pub row_table : List (List ℕ) → List (List ℕ)
row_table rows = written (replicate 64 (replicate 32 0)) 0 (map (tabled 32) rows)

-- the sheet's first words are those of a plan for the model, and p is that plan
pub record Says (m : Meaning) (bs : List ℕ) (p : PlanSaid) : Type 0 where
  pub queues : List ℕ
  pub rows : List (List ℕ)
  pub short : length bs ≤ 65535
  pub places : length queues ≡ m.places
  pub tops : UpTo (top_of m) 0 queues
  pub some : 1 ≤ length rows
  pub few : length rows ≤ 64
  pub lawful : AllByRecursion (RowOf m) rows
  pub words : Spelled bs 0 (start_words queues ++ rows_words rows) p.end
  pub start : p.start ≡ tabled 64 queues
  pub table : p.rows ≡ row_table rows
  pub count : p.count ≡ length rows

-- accepted as p exactly where the sheet says p
abbrev pub Exact : Meaning → List ℕ → Told PlanSaid → Type 0
Exact m bs t = (p : PlanSaid) → (t ≡ Ok p → Says m bs p) × (Says m bs p → t ≡ Ok p)
