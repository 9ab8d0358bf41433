use Rattle.std.proofs.Common.{◌≡◌, drop}
use Rattle.plan.specs.Check.{check_rows}
use Rattle.plan.proofs.check.check.Given as goal

abbrev pub invariant-loop-n : goal.invariant-loop-n
invariant-loop-n g l =
    check_rows (g.M.Model.meaning l.model) l.limits l.n l.state (drop l.n l.rows)
    ≡ check_rows (g.M.Model.meaning l.model) l.limits 0 l.plan.start l.rows
