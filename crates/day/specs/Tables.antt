-- Tables with a number for each place, and the groups of a day.
use Rattle.std.specs.Prelude.{ℕ, List, Ok, ◌==◌}
use Rattle.refusal.specs.Questions.{Told, then}
use Rattle.model.specs.Model.{Meaning}
use Rattle.words.specs.Numbers.{number_at}
use Rattle.words.specs.declared.recorded.Recorded.{Recorded}
use Rattle.records.specs.Sections.{Reader, up_to, table_at}
use Rattle.street.specs.declared.groups.Group.{Group}

-- a number for each place
abbrev pub numbers_at : Meaning → List ℕ → ℕ → Told (Recorded (List ℕ))
numbers_at m bs at = table_at (up_to bs 999999999) 64 0 at m.places

-- a group: its dark mark, 0 or 1, and an arrival for each place
abbrev pub group_at : Meaning → List ℕ → Reader Group
group_at m bs at before =
    then (number_at bs at 0 1) (λ mark.
    then (numbers_at m bs mark.end) (λ t.
    Ok (record { item = record { arrivals = t.item; dark = (mark.value == 1) }; end = t.end })))
