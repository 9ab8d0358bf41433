-- A street over any model, on which each step brings what its feed gives.
use Rattle.std.specs.Prelude.{◌≡◌, ℕ, List}
use Rattle.model.specs.Model.{Meaning, lamps}
use Rattle.street.specs.declared.Showing.{Showing}
use Rattle.street.specs.declared.groups.Group.{Group}
use Rattle.street.specs.declared.fed.FedStreet.{FedStreet}
use Rattle.street.specs.Street.{Seen}
use Rattle.street.specs.Standing.{seen_of, answer_for, After}

abbrev pub fed_seen : {M F : Type 0} → (M → Meaning) → FedStreet M F → Seen
fed_seen meaning s = seen_of (meaning s.model) s.standing

-- one step: the feed brings a group for the row that counts, its mark says whether the step is dark,
-- its arrivals move the queues, and the model stays as it is
pub record FedStep {M F : Type 0} (meaning : M → Meaning) (brings : Meaning → List ℕ → F → Group → F → Type 0) (row : List ℕ) (s : FedStreet M F) (answer : Showing) (t : FedStreet M F) : Type 0 where
  pub group : Group
  pub brought : brings (meaning s.model) (lamps (meaning s.model) row) s.feed group t.feed
  pub answers : answer ≡ answer_for (meaning s.model) group.dark row
  pub moves : After (meaning s.model) group.dark row group.arrivals s.standing t.standing
  pub model : meaning t.model ≡ meaning s.model
