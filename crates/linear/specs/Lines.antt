-- What a linear model means.
-- Places, lines and columns are counted from 0 here, and places from 1 in an answer.
-- In a step m is the mode that counts, x the values before it within the tops, and v the arrivals within the loads.
use Rattle.std.specs.Prelude.{◌≡◌, ℕ, ◌+◌, ◌-◌, ◌*◌, ◌/◌, ◌<◌, ◌≤◌, cond, List, [], ◌∷◌, map, length, Some, None, sum, Option, ◌==◌, nat_lt, slice_index, slice_index_or}
use Rattle.std.specs.List.{range_with_len}
use Rattle.model.specs.declared.Answer.{Answer}
use Rattle.model.specs.declared.Answer.TheVariants.{Clear, Held}
use Rattle.model.specs.declared.Cause.TheVariants.{Overflow}
use Rattle.model.specs.State.{whole, capped, lowest_above}
use Rattle.model.specs.Model.{Meaning, Core, model, lit}
use Rattle.linear.specs.declared.place.Place.{Place}
use Rattle.linear.specs.Sound.{no_place, PlacesOk, EntriesOk}

-- the number of modes, the places and the entries
pub record Lines : Type 0 where
  pub modes : ℕ
  pub places : List Place
  pub entries : List ℕ

-- which numbers they may have
pub record Sound (n : Lines) : Type 0 where
  pub moded : 1 ≤ n.modes
  pub short : n.modes ≤ 8
  pub some : 1 ≤ length n.places
  pub few : length n.places ≤ 16
  pub placed : PlacesOk n.places
  pub full : length n.entries ≡ n.modes * length n.places * length n.places
  pub entered : EntriesOk n.entries

abbrev pub place : Lines → ℕ → Place
place n k = slice_index_or n.places k no_place

-- the top and the load of each place, and 0 beyond the last
unfoldable pub tops : Lines → List ℕ
tops n = whole (λ k. (place n k).top)

unfoldable pub loads : Lines → List ℕ
loads n = whole (λ k. (place n k).load)

-- the entry of mode m at line i and column j
abbrev pub entry : Lines → ℕ → ℕ → ℕ → ℕ
entry n m i j = slice_index n.entries (((m - 1) * length n.places + i) * length n.places + j)

-- what column j adds to line i
abbrev pub part : Lines → ℕ → List ℕ → ℕ → ℕ → ℕ
part n m x i j = entry n m i j * slice_index x j

-- the sum over line i of entry × value
unfoldable pub line_sum : Lines → ℕ → List ℕ → ℕ → ℕ
line_sum n m x i = sum (map (part n m x i) (range_with_len 0 (length n.places)))

-- hundredths as whole units, rounded up
abbrev pub units : ℕ → ℕ
units h = (h + 99) / 100

-- what the values before the step leave at place i: in mode 0 its own value, else the units of its line
abbrev pub carried : Lines → ℕ → List ℕ → ℕ → ℕ
carried n m x i = cond (m == 0) (slice_index x i) (units (line_sum n m x i))

-- the value at place i after the step, before its top cuts it off
unfoldable pub amount : Lines → ℕ → List ℕ → List ℕ → ℕ → ℕ
amount n m x v i = carried n m x i + slice_index v i

-- f at each place, and 0 beyond the last
abbrev pub inside : Lines → (ℕ → ℕ) → ℕ → ℕ
inside n f i = cond (nat_lt i (length n.places)) (f i) 0

unfoldable pub amounts : Lines → ℕ → List ℕ → List ℕ → List ℕ
amounts n m x v = whole (inside n (amount n m x v))

-- the mode of the one signal
abbrev pub mode : List ℕ → ℕ
mode r = slice_index r 0

-- the values after the step at the row r
unfoldable pub moved : Lines → List ℕ → List ℕ → List ℕ → List ℕ
moved n r x v = capped (tops n) (amounts n (mode r) x v)

-- a place that its top cuts off is held, where there is one
abbrev pub cut_off : Option ℕ → Answer
cut_off None = Clear
cut_off (Some p) = Held p Overflow

-- the lowest held place
unfoldable pub judged : Lines → List ℕ → List ℕ → List ℕ → Answer
judged n r x v = cut_off (lowest_above (amounts n (mode r) x v) (tops n))

-- no top cuts a value off
abbrev pub Fits : Lines → List ℕ → List ℕ → List ℕ → Type 0
Fits n r x v = (k : ℕ) → k < length n.places → amount n (mode r) x v k ≤ (place n k).top

-- the answer a to the row r, the state x and the arrivals v is clear exactly where no top cuts a value off
pub record ClearWhereFits (n : Lines) (r x v : List ℕ) (a : Answer) : Type 0 where
  pub fits : a ≡ Clear → Fits n (lit (n.modes ∷ []) r) (capped (tops n) x) (capped (loads n) v)
  pub clear : Fits n (lit (n.modes ∷ []) r) (capped (tops n) x) (capped (loads n) v) → a ≡ Clear

abbrev pub core : Lines → Core
core n = record {
  places = length n.places;
  modes = n.modes ∷ [];
  tops = tops n;
  loads = loads n;
  moved = moved n;
  judged = judged n;
}

abbrev pub linear : Lines → Meaning
linear n = model (core n)
