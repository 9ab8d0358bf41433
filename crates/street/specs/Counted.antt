-- Counted streets: each step uses up one group of arrivals.
use Rattle.std.specs.Prelude.{ℕ, false, List, [], ◌∷◌, replicate}
use Rattle.model.specs.State.{capped}
use Rattle.model.specs.Model.{Meaning}
use Rattle.street.specs.declared.Showing.{Showing}
use Rattle.street.specs.declared.groups.Group.{Group}
use Rattle.street.specs.Street.{Seen}
use Rattle.street.specs.Standing.{answer_for, moved}

-- a step in which nothing arrives
abbrev pub no_group : Group
no_group = record { arrivals = replicate 64 0; dark = false }

-- the group of the next step
abbrev pub first_of : List Group → Group
first_of [] = no_group
first_of (g ∷ gs) = g

-- the groups after the next step
abbrev pub rest : List Group → List Group
rest [] = []
rest (g ∷ gs) = gs

-- arrivals above a load count as that
abbrev pub capped_group : Meaning → Group → Group
capped_group m g = record { arrivals = capped m.loads g.arrivals; dark = g.dark }

-- the answer to a row, with these groups left
abbrev pub counted_answer : Meaning → List ℕ → List Group → Showing
counted_answer m row gs = answer_for m (first_of gs).dark row

-- one step with these groups left
abbrev pub counted_seen : Meaning → List ℕ → List Group → Seen → Seen
counted_seen m row gs s = moved m (counted_answer m row gs) row (first_of gs).arrivals s
