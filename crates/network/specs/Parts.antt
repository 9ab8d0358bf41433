-- What the inner functions of a step promise one another, and the numbers that are told of a place.
use Rattle.std.specs.Prelude.{◌≡◌, ℕ, ◌-◌, ◌≤◌, min, List, fold, slice_index, slice_set}
use Rattle.model.specs.State.{Below, whole, told}
use Rattle.network.specs.declared.links.Link.{Link}
use Rattle.network.specs.declared.links.Turn.{Turn}
use Rattle.network.specs.Network.{Roads, tops, loads, passage, tightened}

-- the top and the load that are told of place p, counted from 1, where the link l stands, and where none does
pub record NumbersOf (n : Roads) (p : ℕ) (l : Link) : Type 0 where
  pub top : l.top ≡ told (tops n) p
  pub load : l.load ≡ told (loads n) p

pub record NoneOf (n : Roads) (p : ℕ) : Type 0 where
  pub top : told (tops n) p ≡ 0
  pub load : told (loads n) p ≡ 0

-- the releases o once the link that the turn t leaves lets out no more than t has room for
abbrev pub eased_by : Roads → List ℕ → Turn → List ℕ → List ℕ
eased_by n q t o = slice_set o (t.from - 1) (min (slice_index o (t.from - 1)) (passage n q t))

-- what each link lets out of the amounts w that it asks for, once every turn has eased it
unfoldable pub eased : Roads → List ℕ → List ℕ → List ℕ
eased n q w = whole (λ k. fold (tightened n q k) (slice_index w k) n.turns)

-- what the amounts are worked out from: releases within the queues, queues within the tops, arrivals within the loads
pub record Ready (n : Roads) (o q v : List ℕ) : Type 0 where
  pub leaving : Below o q
  pub queued : Below q (tops n)
  pub arrived : Below v (loads n)

-- the same by numbers alone: releases within the queues, and queues and arrivals within the greatest top
pub record Small (o q v : List ℕ) : Type 0 where
  pub leaving : Below o q
  pub queued : (k : ℕ) → slice_index q k ≤ 100000
  pub arrived : (k : ℕ) → slice_index v k ≤ 100000
