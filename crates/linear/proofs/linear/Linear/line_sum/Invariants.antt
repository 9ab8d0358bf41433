use Rattle.std.proofs.Common.{◌≡◌, ◌*◌, ◌≤◌, map, sum}
use Rattle.std.specs.List.{range_with_len}
use Rattle.linear.specs.Code.{lines}
use Rattle.linear.specs.Lines.{part}
use Rattle.linear.proofs.linear.Linear.line_sum.Given as goal

abbrev pub invariant-loop-column : goal.invariant-loop-column
invariant-loop-column l =
    (l.sum ≡ sum (map (part (lines l.self) l.mode l.values l.line) (range_with_len 0 l.column))) × (l.sum ≤ 1000000000 * l.column)
