-- A day sheet: the sections `area`, `queues`, `groups` and `calls`, one after the other.
use Rattle.std.specs.Prelude.{ℕ, List, Ok, vec_items, codes}
use Rattle.refusal.specs.Questions.{Told, then}
use Rattle.model.specs.Model.{Meaning}
use Rattle.words.specs.declared.recorded.Recorded.{Recorded}
use Rattle.words.specs.declared.reading.Reading.{Reading}
use Rattle.words.specs.Words.{short_sheet}
use Rattle.words.specs.Numbers.{number_at, section_at}
use Rattle.records.specs.Sections.{Items, section_of}
use Rattle.street.specs.declared.groups.Group.{Group}
use Rattle.day.specs.declared.call.DayCall.{DayCall}
use Rattle.day.specs.declared.read.Day.{Day}
use Rattle.day.specs.Tables.{numbers_at, group_at}
use Rattle.day.specs.Calls.{call_at}

-- the area's number, and no records
abbrev pub area_section : List ℕ → ℕ → Told (Reading ℕ)
area_section bs at = then (section_at bs at (codes "area")) (λ a. number_at bs a 0 999999999)

-- exactly the count of places, and a queue for each
abbrev pub queues_section : Meaning → List ℕ → ℕ → Told (Recorded (List ℕ))
queues_section m bs at = then (section_at bs at (codes "queues")) (λ a. then (number_at bs a m.places m.places) (λ n. numbers_at m bs n.end))

-- at most 64 groups
abbrev pub groups_section : Meaning → List ℕ → ℕ → Told (Items Group)
groups_section m bs at = section_of (group_at m bs) bs at (codes "groups") 0 64

-- at most 1000 calls
abbrev pub calls_section : Meaning → List ℕ → ℕ → Told (Items DayCall)
calls_section m bs at = section_of (call_at m bs) bs at (codes "calls") 0 1000

-- what a day sheet says
pub record DaySaid : Type 0 where
  pub number : ℕ
  pub queues : List ℕ
  pub groups : List Group
  pub calls : List DayCall

abbrev pub sections : Meaning → List ℕ → Told DaySaid
sections m bs =
    then (area_section bs 0) (λ area.
    then (queues_section m bs area.end) (λ queues.
    then (groups_section m bs queues.end) (λ groups.
    then (calls_section m bs groups.end) (λ calls.
    Ok (record { number = area.value; queues = queues.item; groups = groups.items; calls = calls.items })))))

-- the length of the sheet first, then its words
abbrev pub day_sheet : Meaning → List ℕ → Told DaySaid
day_sheet m bs = then (short_sheet bs) (λ _. sections m bs)

abbrev pub day_of : Day → DaySaid
day_of d = record { number = d.number; queues = d.queues; groups = vec_items d.groups; calls = vec_items d.calls }
