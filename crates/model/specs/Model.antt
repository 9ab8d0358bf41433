-- What a model means, and the laws that every model obeys.
use Rattle.std.specs.Prelude.{◌≡◌, ℕ, zero, suc, ◌<◌, ◌≤◌, Bool, true, cond, List, length, replicate, slice_index}
use Rattle.model.specs.declared.Answer.{Answer}
use Rattle.model.specs.declared.Answer.TheVariants.{Clear, Held}
use Rattle.model.specs.declared.Cause.{Cause}
use Rattle.model.specs.declared.Cause.TheVariants.{Blocked, Overflow}
use Rattle.model.specs.declared.Step.{Step}
use Rattle.model.specs.State.{Below, capped, fits_row}

-- Counts, tops and loads; which rows are legal; and, for a row, a state and arrivals, the next state and the answer.
pub record Meaning : Type 0 where
  pub places : ℕ
  pub signals : ℕ
  pub tops : List ℕ
  pub loads : List ℕ
  pub legal : List ℕ → Bool
  pub next : List ℕ → List ℕ → List ℕ → List ℕ
  pub answer : List ℕ → List ℕ → List ℕ → Answer

-- the dark row: mode 0 at every signal
unfoldable pub dark_row : Meaning → List ℕ
dark_row m = replicate 32 0

-- the row that counts: an illegal row counts as the dark row
abbrev pub lamps : Meaning → List ℕ → List ℕ
lamps m r = cond (m.legal r) r (dark_row m)

-- the next state of a step, and its answer
abbrev pub stepped : Meaning → List ℕ → List ℕ → List ℕ → Step
stepped m r x v = record { next = m.next r x v; answer = m.answer r x v }

-- a row and arrivals lead from a state to the next state, and to no other
abbrev pub Reaches : Meaning → List ℕ → List ℕ → List ℕ → List ℕ → Type 0
Reaches m r x v y = y ≡ m.next r x v

-- the number of a cause
abbrev pub cause_number : Cause → ℕ
cause_number Blocked = 1
cause_number Overflow = 2

-- a place that is held is one of the model's
abbrev pub InRange : Meaning → Answer → Type 0
InRange m Clear = Unit {0}
InRange m (Held p c) = (1 ≤ p) × (p ≤ m.places)

pub record Lawful (m : Meaning) : Type 0 where
  -- at most 64 places and 32 signals
  pub few_places : m.places ≤ 64
  pub few_signals : m.signals ≤ 32
  -- a top from 1 to 100,000 for each place, a load within the top, and 0 beyond the last place
  pub whole_tops : length m.tops ≡ 64
  pub whole_loads : length m.loads ≡ 64
  pub low_tops : (k : ℕ) → k < m.places → 1 ≤ slice_index m.tops k
  pub high_tops : (k : ℕ) → slice_index m.tops k ≤ 100000
  pub end_tops : (k : ℕ) → m.places ≤ k → slice_index m.tops k ≡ 0
  pub loads_in_tops : Below m.loads m.tops
  -- the dark row is a legal row, and a legal row is 0 beyond the last signal
  pub whole_dark : length (dark_row m) ≡ 32
  pub legal_dark : m.legal (dark_row m) ≡ true
  pub legal_end : (r : List ℕ) → m.legal r ≡ true → (j : ℕ) → m.signals ≤ j → j < 32 → slice_index r j ≡ 0
  -- the next state has sixty-four numbers within the tops, and a held place is one of the model's
  pub whole_next : (r x v : List ℕ) → length (m.next r x v) ≡ 64
  pub within : (r x v : List ℕ) → Below (m.next r x v) m.tops
  pub held_place : (r x v : List ℕ) → InRange m (m.answer r x v)
  -- numbers above a top or a load count as that, and an illegal row as the dark row
  pub same_next : (r x v : List ℕ) → m.next r x v ≡ m.next (lamps m r) (capped m.tops x) (capped m.loads v)
  pub same_answer : (r x v : List ℕ) → m.answer r x v ≡ m.answer (lamps m r) (capped m.tops x) (capped m.loads v)
  -- the order law: a row that is clear for more is clear for less, and less stays less
  pub order_clear : (r x y v w : List ℕ) → Below x y → Below v w → m.answer r y w ≡ Clear → m.answer r x v ≡ Clear
  pub order_next : (r x y v w : List ℕ) → Below x y → Below v w → m.answer r y w ≡ Clear → Below (m.next r x v) (m.next r y w)

-- the first of two answers that is held
abbrev pub first : Answer → Answer → Answer
first Clear b = b
first (Held p c) b = Held p c

-- the lowest held of the places 1 to n, where f k is the answer for place k + 1
unfoldable pub lowest : ℕ → (ℕ → Answer) → Answer
lowest zero f = Clear
lowest (suc n) f = first (lowest n f) (f n)

-- What is left to say of a model once its numbers are capped and its row is legal.
-- `modes` has the greatest mode of each signal.
pub record Core : Type 0 where
  pub places : ℕ
  pub modes : List ℕ
  pub tops : List ℕ
  pub loads : List ℕ
  pub moved : List ℕ → List ℕ → List ℕ → List ℕ
  pub judged : List ℕ → List ℕ → List ℕ → Answer

-- the row that counts among these modes
abbrev pub lit : List ℕ → List ℕ → List ℕ
lit modes r = cond (fits_row modes r) r (replicate 32 0)

abbrev pub model : Core → Meaning
model c = record {
  places = c.places;
  signals = length c.modes;
  tops = c.tops;
  loads = c.loads;
  legal = fits_row c.modes;
  next = λ r x v. c.moved (lit c.modes r) (capped c.tops x) (capped c.loads v);
  answer = λ r x v. c.judged (lit c.modes r) (capped c.tops x) (capped c.loads v);
}

abbrev pub Placed : Core → Answer → Type 0
Placed c Clear = Unit {0}
Placed c (Held p e) = (1 ≤ p) × (p ≤ c.places)

pub record CoreLaws (c : Core) : Type 0 where
  pub few_places : c.places ≤ 64
  pub few_signals : length c.modes ≤ 32
  pub whole_tops : length c.tops ≡ 64
  pub whole_loads : length c.loads ≡ 64
  pub low_tops : (k : ℕ) → k < c.places → 1 ≤ slice_index c.tops k
  pub high_tops : (k : ℕ) → slice_index c.tops k ≤ 100000
  pub end_tops : (k : ℕ) → c.places ≤ k → slice_index c.tops k ≡ 0
  pub loads_in_tops : Below c.loads c.tops
  pub whole_moved : (r x v : List ℕ) → length (c.moved r x v) ≡ 64
  pub within : (r x v : List ℕ) → Below (c.moved r x v) c.tops
  pub held_place : (r x v : List ℕ) → Placed c (c.judged r x v)
  pub clear : (r x y v w : List ℕ) → Below x y → Below v w → c.judged r y w ≡ Clear → c.judged r x v ≡ Clear
  pub order : (r x y v w : List ℕ) → Below x y → Below v w → c.judged r y w ≡ Clear → Below (c.moved r x v) (c.moved r y w)
