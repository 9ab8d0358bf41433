-- Sections of a sheet: a section word, a count in its range, and as many records, each read beside those before it.
use Rattle.std.specs.Prelude.{◌≡◌, ℕ, ◌≤◌, min, ◌⊎◌, List, [], ◌∷◌, ◌++◌, length, replicate, Ok, Err, vec_items, decimal, Result, alloc_error}
use Rattle.refusal.specs.Questions.{Told, then, turns}
use Rattle.words.specs.Faults.{sheet_refusal}
use Rattle.words.specs.Numbers.{number_at, section_at}
use Rattle.words.specs.Spelling.{Next}
use Rattle.words.specs.Tables.{written}
use Rattle.words.specs.declared.recorded.Recorded.{Recorded}
use Rattle.records.specs.declared.Listed.{Listed}
use Rattle.records.specs.declared.fault.ModelFault.{ModelFault}
use Rattle.records.specs.declared.fault.ModelFault.TheVariants.{Sheet, Memory}

-- a reader of one record: from a place on, beside those before it
abbrev pub Reader : Type 0 → Type 0
Reader A = ℕ → List A → Told (Recorded A)

-- a number up to `high`
abbrev pub up_to : List ℕ → ℕ → Reader ℕ
up_to bs high at before = then (number_at bs at 0 high) (λ n. Ok (record { item = n.value; end = n.end }))

-- what was read, and where it ended
pub record Items (A : Type 0) : Type 0 where
  pub items : List A
  pub end : ℕ

-- one record more
abbrev pub next_record : {A : Type 0} → Reader A → ℕ → Items A → Told (Items A)
next_record read k s = then (read s.end s.items) (λ r. Ok (record { items = s.items ++ (r.item ∷ []); end = r.end }))

-- so many records
abbrev pub records_at : {A : Type 0} → Reader A → ℕ → ℕ → Told (Items A)
records_at read at count = turns (next_record read) count 0 (record { items = []; end = at })

-- a table of n that begins with these items and holds `rest` beyond them
abbrev pub table_of : {A : Type 0} → ℕ → A → Items A → Recorded (List A)
table_of n rest s = record { item = written (replicate n rest) 0 s.items; end = s.end }

-- so many records, but at most n, as such a table
abbrev pub table_at : {A : Type 0} → Reader A → ℕ → A → ℕ → ℕ → Told (Recorded (List A))
table_at read n rest at count = then (records_at read at (min count n)) (λ s. Ok (table_of n rest s))

-- a section word, a count from low to high, and so many records
abbrev pub section_of : {A : Type 0} → Reader A → List ℕ → ℕ → List ℕ → ℕ → ℕ → Told (Items A)
section_of read bs at word low high =
    then (section_at bs at word) (λ a. then (number_at bs a low high) (λ n. records_at read n.end n.value))

-- the answer is what the sheet says, unless there was no memory; a value counts by what it is seen as
abbrev pub ToldAs : {V C : Type 0} → (V → C) → Result V ModelFault → Told C → Type 0
ToldAs view (Ok v) t = Ok (view v) ≡ t
ToldAs view (Err (Sheet e)) t = Err (sheet_refusal e) ≡ t
ToldAs view (Err (Memory e)) t = Unit {0}

abbrev pub items_of : {A : Type 0} → Listed A → Items A
items_of v = record { items = vec_items v.items; end = v.end }

abbrev pub ListedAs : {A : Type 0} → Result (Listed A) ModelFault → Told (Items A) → Type 0
ListedAs r t = ToldAs items_of r t

-- the answer is a value that is seen as c
abbrev pub ReadAs : {V C : Type 0} → (V → C) → Result V ModelFault → C → Type 0
ReadAs view (Ok v) c = view v ≡ c
ReadAs view (Err e) c = ⊥

-- what is read is what the sheet says; and what the sheet says is read, unless there is no memory
pub record Exactly {V C : Type 0} (view : V → C) (Says : C → Type 0) (r : Result V ModelFault) : Type 0 where
  pub says : (c : C) → ReadAs view r c → Says c
  pub reads : (c : C) → Says c → ReadAs view r c ⊎ (r ≡ Err (Memory alloc_error))

-- what it means for a record to say something: beside those before it, from a place on, up to where it ends
abbrev pub Saying : Type 0 → Type 1
Saying A = List A → ℕ → A → ℕ → Type 0

-- records one after the other, each beside those before it
abbrev pub Said : {A : Type 0} → Saying A → List A → ℕ → List A → ℕ → Type 0
Said R before at [] to = at ≡ to
Said R before at (x ∷ xs) to = (e : ℕ) × R before at x e × Said R (before ++ (x ∷ [])) e xs to

-- a section stands from place `at` on and ends at `to`: its word, the count of its records, and the records
pub record Section {A : Type 0} (R : Saying A) (bs : List ℕ) (at : ℕ) (word : List ℕ) (low high : ℕ) (xs : List A) (to : ℕ) : Type 0 where
  pub named : ℕ
  pub counted : ℕ
  pub word_stands : Next bs at word named
  pub count_stands : Next bs named (decimal (length xs)) counted
  pub enough : low ≤ length xs
  pub few : length xs ≤ high
  pub records : Said R [] counted xs to
