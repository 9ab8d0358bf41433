-- How a street stands: what it holds, and what that means under a model.
use Rattle.std.specs.Prelude.{◌≡◌, ℕ, Bool, false, cond, List, replicate}
use Rattle.model.specs.State.{capped}
use Rattle.model.specs.Model.{Meaning, dark_row, lamps}
use Rattle.street.specs.declared.Showing.{Showing}
use Rattle.street.specs.declared.Showing.TheVariants.{Shown, Dark}
use Rattle.street.specs.declared.standing.Standing.{Standing}
use Rattle.street.specs.Street.{Seen, lamps_after}

-- a street's meaning caps what it holds, and an illegal row counts as the dark row
abbrev pub seen_of : Meaning → Standing → Seen
seen_of m t = record { queues = capped m.tops t.queues; lamps = lamps m t.lamps; arrivals = capped m.loads t.arrivals }

-- a street that has made no step: dark, and nothing arrived
abbrev pub fresh_seen : Meaning → List ℕ → Seen
fresh_seen m queues = record { queues = capped m.tops queues; lamps = dark_row m; arrivals = replicate 64 0 }

-- the answer to a row: dark where the step is marked dark or the row is illegal
abbrev pub answer_for : Meaning → Bool → List ℕ → Showing
answer_for m marked row = cond marked Dark (cond (m.legal row) Shown Dark)

-- one step under an answer, with these arrivals
abbrev pub moved : Meaning → Showing → List ℕ → List ℕ → Seen → Seen
moved m answer row v s = record { queues = m.next (lamps_after m answer row) s.queues v; lamps = lamps_after m answer row; arrivals = v }

-- a standing before the first step, with these queues
abbrev pub Fresh : Meaning → List ℕ → Standing → Type 0
Fresh m queues t = seen_of m t ≡ fresh_seen m queues

-- a standing moved by one step, in which arrivals above a load counted as that
abbrev pub After : Meaning → Bool → List ℕ → List ℕ → Standing → Standing → Type 0
After m marked row v s t = seen_of m t ≡ moved m (answer_for m marked row) row (capped m.loads v) (seen_of m s)

-- one step of the street on which every step brings the loads
abbrev pub heavily : Meaning → List ℕ → Seen → Seen
heavily m row s = moved m (answer_for m false row) row m.loads s
