-- One-round runs of a plan, and when one holds.
use Rattle.std.specs.Prelude.{◌≡◌, ℕ, List, [], ◌∷◌}
use Rattle.model.specs.declared.Answer.TheVariants.{Clear}
use Rattle.model.specs.Model.{Meaning}
pub use Rattle.model.specs.Model.{Reaches}
use Rattle.model.specs.State.{Below}
pub use Rattle.model.specs.State.{Within}
use Rattle.plan.specs.declared.limits.Limit.{Limit}
use Rattle.plan.specs.Limits.{Keeps}

-- a run takes the rows once, in order, from a state, each with any arrivals within the loads
pub data Run (m : Meaning) : List ℕ → List (List ℕ) → Type 0 where
  ends : {x : List ℕ} → Run m x []
  takes : {x r : List ℕ} {rs : List (List ℕ)} (v y : List ℕ) → Within v m.loads → Reaches m r x v y → Run m y rs → Run m x (r ∷ rs)

-- it holds if every row is clear, every state keeps every limit, and the last state is at or below the start
abbrev pub Holds : (m : Meaning) (ls : List Limit) (start : List ℕ) {x : List ℕ} {rs : List (List ℕ)} → Run m x rs → Type 0
Holds m ls start (ends {x}) = Keeps ls x × Below x start
Holds m ls start (takes {x} {r} v y w e rest) = Keeps ls x × (m.answer r x v ≡ Clear) × Holds m ls start rest

-- every one-round run holds: from any state at or below the start, with any arrivals within the loads
abbrev pub EveryRunHolds : Meaning → List Limit → List ℕ → List (List ℕ) → Type 0
EveryRunHolds m ls start rs = (x : List ℕ) → Within x start → (run : Run m x rs) → Holds m ls start run
