use Rattle.std.proofs.Common.{is_ok, string_bytes, refl, ap}
use Rattle.day.specs.Running.{held}
use Rattle.day.proofs.Whole.{so_far_more, so_far_all}
use Rattle.day.proofs.day.run_calls.Goals as goal

pub loop-call-preserved : goal.loop-call-preserved
loop-call-preserved g c =
    let l = c.loop-call in
    let x = c.next_line-shift in
    so_far_more g.S.Model.meaning g.S.Street.seen c.args.sheet.now c.args.places c.args.calls.now c.args.area.now l.call-index l.area (held l.shift.hand) (string_bytes l.out) (is_ok l.shift.written) l.invariant
    _ _ x.new.area (held x.result.hand) (string_bytes x.new.out) (is_ok x.result.written) c.loop-call-test.true refl x.ensures

pub returns : goal.returns
returns g c =
    let l = c.loop-call in
    so_far_all g.S.Model.meaning g.S.Street.seen c.args.sheet.now c.args.places c.args.calls.now c.args.area.now l.call-index l.area (held l.shift.hand) (string_bytes l.out) (is_ok l.shift.written) l.invariant
    c.loop-call-test.false (ap is_ok c.in_ok-written.was)
