-- Which numbers a linear model may have.
use Rattle.std.specs.Prelude.{ℕ, ◌<◌, ◌≤◌, List, length, slice_index, slice_index_or}
use Rattle.linear.specs.declared.place.Place.{Place}

-- what stands past the last place
abbrev pub no_place : Place
no_place = record { top = 0; load = 0 }

-- a top from 1 to 100,000, and a load within it
abbrev pub PlaceOk : Place → Type 0
PlaceOk p = (1 ≤ p.top) × (p.top ≤ 100000) × (p.load ≤ p.top)

abbrev pub PlacesOk : List Place → Type 0
PlacesOk ps = (k : ℕ) → k < length ps → PlaceOk (slice_index_or ps k no_place)

-- hundredths, from 0 to a hundred times the value
abbrev pub EntriesOk : List ℕ → Type 0
EntriesOk es = (k : ℕ) → k < length es → slice_index es k ≤ 10000
