-- Every step of the heavy and of the counted street, exactly: what `show` promises of any feed comes to these, for whoever is handed such a street.
use Rattle.std.proofs.Common.{◌≡◌, List, [], ◌∷◌, map, refl}
use Rattle.model.specs.Model.{Meaning, Lawful}
use Rattle.street.specs.declared.groups.Group.{Group}
use Rattle.street.specs.Counted.{first_of, rest, capped_group}
use Rattle.street.specs.Views.{StepsHeavily, StepsByGroups, to_come}
use Rattle.street.specs.Moving.{no_arrivals, loads_own}

pub rest_map : (m : Meaning) (gs : List Group) → rest (map (capped_group m) gs) ≡ map (capped_group m) (rest gs)
rest_map m [] = refl
rest_map m (g ∷ gs) = refl

pub first_map : (m : Meaning) → Lawful m → (gs : List Group) → first_of (map (capped_group m) gs) ≡ capped_group m (first_of gs)
first_map m law [] = let z = no_arrivals m law in cc
first_map m law (g ∷ gs) = refl

-- the laws of the model that a street stands on
module _ {M : Type 0} (meaning : M → Meaning) (lawful : (m : M) → Lawful (meaning m)) where
  pub heavily : StepsHeavily meaning
  heavily row answer s t e =
      let own = loads_own (meaning s.model) (lawful s.model) in
      let b = e.brought in
      let k = e.moves in
      record { answers = cc; moves = cc }

  pub by_groups : StepsByGroups meaning
  by_groups row answer s t e =
      let m = meaning s.model in
      let gs = to_come s.feed in
      let b = e.brought in
      let k = e.moves in
      let f = first_map m (lawful s.model) gs in
      let r = rest_map m gs in
      record { answers = cc; moves = cc; uses = cc }
