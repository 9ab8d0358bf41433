-- Which numbers a network may have.
use Rattle.std.specs.Prelude.{ℕ, ◌<◌, ◌≤◌, List, [], length, slice_index, slice_index_or}
use Rattle.network.specs.declared.links.Link.{Link}
use Rattle.network.specs.declared.links.Turn.{Turn}

-- what stands past the last link, and past the last turn
abbrev pub no_link : Link
no_link = record { name = []; tail = 0; head = 0; top = 0; flow = 0; load = 0; mask = 0 }

abbrev pub no_turn : Turn
no_turn = record { from = 0; to = 0; share = 0; supply = 0 }

-- a link between junctions 1 to n, its tail perhaps outside: its ends, its top, its other numbers
abbrev pub LinkOk : ℕ → Link → Type 0
LinkOk n l =
    ((l.tail ≤ n) × (1 ≤ l.head) × (l.head ≤ n))
    × ((1 ≤ l.top) × (l.top ≤ 100000))
    × ((l.flow ≤ 100000) × (l.load ≤ l.top))

-- a turn between links 1 to n: its ends, then its share and its supply
abbrev pub TurnOk : ℕ → Turn → Type 0
TurnOk n t =
    ((1 ≤ t.from) × (t.from ≤ n))
    × ((1 ≤ t.to) × (t.to ≤ n))
    × ((1 ≤ t.share) × (t.share ≤ 1000) × (t.supply ≤ 1000))

-- 1 to 32 junctions, each with 1 to 8 phases
abbrev pub PhasesOk : List ℕ → Type 0
PhasesOk ps = (1 ≤ length ps) × (length ps ≤ 32) × ((k : ℕ) → k < length ps → (1 ≤ slice_index ps k) × (slice_index ps k ≤ 8))

abbrev pub LinksOk : ℕ → List Link → Type 0
LinksOk n ls = (k : ℕ) → k < length ls → LinkOk n (slice_index_or ls k no_link)

abbrev pub TurnsOk : ℕ → List Turn → Type 0
TurnsOk n ts = (k : ℕ) → k < length ts → TurnOk n (slice_index_or ts k no_turn)
