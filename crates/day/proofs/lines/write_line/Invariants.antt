use Rattle.std.proofs.Common.{◌≡◌, ◌-◌, ◌++◌, string_bytes}
use Rattle.day.specs.Text.{numbers_from}
use Rattle.day.proofs.lines.write_line.Given as goal

abbrev pub invariant-loop-k : goal.invariant-loop-k
invariant-loop-k g l =
    string_bytes l.out ++ numbers_from l.area.book.position.envelope (l.places - l.k) l.k
    ≡ string_bytes l.initial.out ++ numbers_from l.area.book.position.envelope l.places 0
