-- What the heavy and the counted street bring, and one step of each, whatever their model means.
use Rattle.std.specs.Prelude.{◌≡◌, ℕ, false, List, map, take, drop}
use Rattle.model.specs.Model.{Meaning}
use Rattle.street.specs.declared.Showing.{Showing}
use Rattle.street.specs.declared.groups.Group.{Group}
use Rattle.street.specs.declared.fed.FedStreet.{FedStreet}
use Rattle.street.specs.declared.heavy.Loads.{Loads}
use Rattle.street.specs.declared.groups.Groups.{Groups}
use Rattle.street.specs.Standing.{answer_for, heavily}
use Rattle.street.specs.Fed.{fed_seen, FedStep}
use Rattle.street.specs.Counted.{first_of, rest, capped_group, counted_answer, counted_seen}

-- the loads arrive, and the step is not marked
pub record BringsLoads (m : Meaning) (row : List ℕ) (before : Loads) (g : Group) (after : Loads) : Type 0 where
  pub arrivals : g.arrivals ≡ m.loads
  pub mark : g.dark ≡ false

-- the groups that are kept and not used up
abbrev pub to_come : Groups → List Group
to_come f = drop f.used (take f.kept f.table)

-- the first of those groups comes, and is used up
pub record BringsFirst (m : Meaning) (row : List ℕ) (before : Groups) (g : Group) (after : Groups) : Type 0 where
  pub comes : g ≡ first_of (to_come before)
  pub uses : to_come after ≡ rest (to_come before)

-- the groups still to come, as they count
abbrev pub groups_of : {M : Type 0} → (M → Meaning) → FedStreet M Groups → List Group
groups_of meaning s = map (capped_group (meaning s.model)) (to_come s.feed)

-- one step of the heavy street: it answers dark for an illegal row alone, and the loads arrive
pub record HeavyStep {M : Type 0} (meaning : M → Meaning) (row : List ℕ) (s : FedStreet M Loads) (answer : Showing) (t : FedStreet M Loads) : Type 0 where
  pub answers : answer ≡ answer_for (meaning s.model) false row
  pub moves : fed_seen meaning t ≡ heavily (meaning s.model) row (fed_seen meaning s)

-- every step that a street makes by the loads is a step of the heavy street
abbrev pub StepsHeavily : {M : Type 0} → (M → Meaning) → Type 0
StepsHeavily {M} meaning = (row : List ℕ) (answer : Showing) (s t : FedStreet M Loads) → FedStep meaning BringsLoads row s answer t → HeavyStep meaning row s answer t

-- one step of the counted street: the first group that is left has the mark and the arrivals, and is used up
pub record CountedStep {M : Type 0} (meaning : M → Meaning) (row : List ℕ) (s : FedStreet M Groups) (answer : Showing) (t : FedStreet M Groups) : Type 0 where
  pub answers : answer ≡ counted_answer (meaning s.model) row (groups_of meaning s)
  pub moves : fed_seen meaning t ≡ counted_seen (meaning s.model) row (groups_of meaning s) (fed_seen meaning s)
  pub uses : groups_of meaning t ≡ rest (groups_of meaning s)

-- every step that a street makes by groups is a step of the counted street
abbrev pub StepsByGroups : {M : Type 0} → (M → Meaning) → Type 0
StepsByGroups {M} meaning = (row : List ℕ) (answer : Showing) (s t : FedStreet M Groups) → FedStep meaning BringsFirst row s answer t → CountedStep meaning row s answer t
