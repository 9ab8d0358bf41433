use Rattle.std.proofs.Common.{is_ok, string_bytes}
use Rattle.day.specs.Running.{held}
use Rattle.day.specs.Whole.{SoFar}
use Rattle.day.proofs.day.run_calls.Given as goal

abbrev pub invariant-loop-call : goal.invariant-loop-call
invariant-loop-call g l =
    SoFar g.S.Model.meaning g.S.Street.seen l.sheet l.places l.calls l.initial.area l.call-index l.area (held l.shift.hand) (string_bytes l.out) (is_ok l.shift.written)
