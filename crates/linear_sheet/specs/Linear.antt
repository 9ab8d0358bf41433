-- A whole linear model sheet: the sections `modes`, `places`, `entries` and `limits`, one after the other.
use Rattle.std.specs.Prelude.{ℕ, Bool, List, length, is_ok, Ok, codes}
use Rattle.refusal.specs.Questions.{Told, then}
use Rattle.words.specs.declared.reading.Reading.{Reading}
use Rattle.words.specs.Words.{short_sheet}
use Rattle.words.specs.Numbers.{number_at, section_at}
use Rattle.records.specs.Sections.{Items, section_of}
use Rattle.linear.specs.declared.place.Place.{Place}
use Rattle.linear.specs.declared.linear.Linear.{Linear}
use Rattle.linear.specs.Lines.{Lines}
use Rattle.linear.specs.Code.{lines}
use Rattle.limit_sheet.specs.Limits.{limits_section}
use Rattle.model_sheet.specs.declared.ModelRead.{ModelRead}
use Rattle.model_sheet.specs.Content.{Content, content_by}
use Rattle.linear_sheet.specs.Places.{place_at, entry_at, entry_count}

-- the first word is the one that begins a linear sheet
abbrev pub begins_linear : List ℕ → Bool
begins_linear bs = is_ok (section_at bs 0 (codes "modes"))

-- 1 to 8 modes, and no records
abbrev pub modes_section : List ℕ → ℕ → Told (Reading ℕ)
modes_section bs at = then (section_at bs at (codes "modes")) (λ a. number_at bs a 1 8)

-- 1 to 16 places
abbrev pub places_section : List ℕ → ℕ → Told (Items Place)
places_section bs at = section_of (place_at bs) bs at (codes "places") 1 16

-- as many entries as so many modes and places have
abbrev pub entries_section : List ℕ → ℕ → ℕ → ℕ → Told (Items ℕ)
entries_section bs modes places at =
    section_of (entry_at bs) bs at (codes "entries") (entry_count modes places) (entry_count modes places)

abbrev pub sections : List ℕ → Told (Content Lines)
sections bs =
    then (modes_section bs 0) (λ modes.
    then (places_section bs modes.end) (λ places.
    then (entries_section bs modes.value (length places.items) places.end) (λ entries.
    then (limits_section bs (length places.items) entries.end) (λ limits.
    Ok (record { model = record { modes = modes.value; places = places.items; entries = entries.items }; limits = limits.items; end = limits.end })))))

-- the length of the sheet first, then its words
abbrev pub linear_sheet : List ℕ → Told (Content Lines)
linear_sheet bs = then (short_sheet bs) (λ _. sections bs)

abbrev pub content : ModelRead Linear → Content Lines
content = content_by lines
