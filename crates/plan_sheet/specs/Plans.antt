-- A plan sheet, word by word: what it says, or its first no.
use Rattle.std.specs.Prelude.{ℕ, ◌+◌, cond, List, length, replicate, Ok, codes, slice_set}
use Rattle.refusal.specs.Questions.{Told, no, then, turns}
use Rattle.model.specs.Model.{Meaning}
use Rattle.model.specs.State.{told}
use Rattle.words.specs.Words.{short_sheet}
use Rattle.words.specs.Numbers.{number_at, section_at}
use Rattle.words.specs.declared.reading.Reading.{Reading}
use Rattle.words.specs.declared.recorded.Recorded.{Recorded}
use Rattle.records.specs.Sections.{Reader, up_to, table_at}

-- a start, a table of rows with how many of them count, and where the last word ended
pub record PlanSaid : Type 0 where
  pub start : List ℕ
  pub rows : List (List ℕ)
  pub count : ℕ
  pub end : ℕ

-- the top of place k, counted from 0
abbrev pub top_of : Meaning → ℕ → ℕ
top_of m k = told m.tops (k + 1)

-- the number of the next place, beside those of the places before it: from 0 to its top
abbrev pub queue_at : Meaning → List ℕ → Reader ℕ
queue_at m bs at before = up_to bs (top_of m (length before)) at before

-- a number for each place
abbrev pub start_at : Meaning → List ℕ → ℕ → Told (Recorded (List ℕ))
start_at m bs at = table_at (queue_at m bs) 64 0 at m.places

-- the mode of signal k, counted from 0: from 0 to 8
abbrev pub mode_at : List ℕ → ℕ → Reading (List ℕ) → Told (Reading (List ℕ))
mode_at bs k s = then (number_at bs s.end 0 8) (λ n. Ok (record { value = slice_set s.value k n.value; place = n.place; end = n.end }))

-- a mode for each signal; the place is that of the last one
abbrev pub modes_at : Meaning → List ℕ → ℕ → Told (Reading (List ℕ))
modes_at m bs at = turns (mode_at bs) m.signals 0 (record { value = replicate 32 0; place = at; end = at })

-- question 6 at a row's last mode: is the row legal?
abbrev pub legal_only : Meaning → Reading (List ℕ) → Told (Recorded (List ℕ))
legal_only m r = cond (m.legal r.value) (Ok (record { item = r.value; end = r.end })) (no 6 r.place)

-- a mode for each signal, legal as a row
abbrev pub row_at : Meaning → List ℕ → Reader (List ℕ)
row_at m bs at before = then (modes_at m bs at) (legal_only m)

-- so many rows
abbrev pub rows_at : Meaning → List ℕ → ℕ → ℕ → Told (Recorded (List (List ℕ)))
rows_at m bs at count = table_at (row_at m bs) 64 (replicate 32 0) at count

-- the section `start`: its word, exactly the count of places, and their numbers
abbrev pub start_section : Meaning → List ℕ → Told (Recorded (List ℕ))
start_section m bs = then (section_at bs 0 (codes "start")) (λ a. then (number_at bs a m.places m.places) (λ n. start_at m bs n.end))

-- the plan of this start and of so many rows
abbrev pub with_rows : Meaning → List ℕ → Recorded (List ℕ) → ℕ → ℕ → Told PlanSaid
with_rows m bs s at count = then (rows_at m bs at count) (λ r. Ok (record { start = s.item; rows = r.item; count = count; end = r.end }))

-- the section `rows` after the start: its word, a count from 1 to 64, and the rows
abbrev pub rows_section : Meaning → List ℕ → Recorded (List ℕ) → Told PlanSaid
rows_section m bs s = then (section_at bs s.end (codes "rows")) (λ a. then (number_at bs a 1 64) (λ n. with_rows m bs s n.end n.value))

-- the length of the sheet, and then its two sections
abbrev pub plan_sheet : Meaning → List ℕ → Told PlanSaid
plan_sheet m bs = then (short_sheet bs) (λ _. then (start_section m bs) (rows_section m bs))
