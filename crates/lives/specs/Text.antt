-- How a state is printed.
use Rattle.std.specs.Prelude.{ℕ, List, ◌++◌, codes, decimal}
use Rattle.lives.specs.declared.state.Loss.{Loss}
use Rattle.lives.specs.declared.state.Loss.TheVariants.{PlaceHeld, LimitBroken}
use Rattle.lives.specs.declared.state.State.{State}
use Rattle.lives.specs.declared.state.State.TheVariants.{OffLine, Covered, Lost}

-- the row that was tried, and the place or the limit
abbrev pub loss_text : Loss → List ℕ
loss_text (PlaceHeld row place) = codes "held " ++ (decimal row ++ (codes " " ++ decimal place))
loss_text (LimitBroken row limit) = codes "limit " ++ (decimal row ++ (codes " " ++ decimal limit))

-- a lost cover is told by why it was lost
abbrev pub state_text : State → List ℕ
state_text OffLine = codes "off"
state_text Covered = codes "covered"
state_text (Lost loss) = codes "lost " ++ loss_text loss
