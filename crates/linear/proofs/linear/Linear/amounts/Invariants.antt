use Rattle.model.proofs.Filled.{Filled}
use Rattle.linear.specs.Code.{lines}
use Rattle.linear.specs.Lines.{inside, amount}
use Rattle.linear.proofs.linear.Linear.amounts.Given as goal

abbrev pub invariant-loop-k : goal.invariant-loop-k
invariant-loop-k l = Filled (inside (lines l.self) (amount (lines l.self) l.mode l.values l.arrivals)) l.k l.amounts
