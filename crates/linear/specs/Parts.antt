-- What the inner functions of a step promise one another, and the numbers that are told of a place.
use Rattle.std.specs.Prelude.{◌≡◌, ℕ, ◌≤◌, List, slice_index}
use Rattle.model.specs.State.{told}
use Rattle.linear.specs.declared.place.Place.{Place}
use Rattle.linear.specs.Lines.{Lines, tops, loads}

-- the top and the load that are told of place p, counted from 1, where the place l stands, and where none does
pub record NumbersOf (n : Lines) (p : ℕ) (l : Place) : Type 0 where
  pub top : l.top ≡ told (tops n) p
  pub load : l.load ≡ told (loads n) p

pub record NoneOf (n : Lines) (p : ℕ) : Type 0 where
  pub top : told (tops n) p ≡ 0
  pub load : told (loads n) p ≡ 0

-- what the amounts are worked out from: a mode of the model, and values and arrivals within the greatest top
pub record Ready (n : Lines) (m : ℕ) (x v : List ℕ) : Type 0 where
  pub moded : m ≤ n.modes
  pub valued : (k : ℕ) → slice_index x k ≤ 100000
  pub coming : (k : ℕ) → slice_index v k ≤ 100000
