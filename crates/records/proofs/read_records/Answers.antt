use Rattle.std.proofs.Common.{is_ok, ap}
use Rattle.std.proofs.ResultArms.{chosen}
use Rattle.std.proofs.lemmas.Result.{err_from_is_err_and}
use Rattle.records.proofs.Steps.{record_stops, record_more}
use Rattle.records.proofs.read_records.Goals as goal

pub returns-in_err-read : goal.returns-in_err-read
returns-in_err-read g c =
    let p = err_from_is_err_and c.from_residual.result c.from_residual.ensures.1 in
    rw (p.1, p.2) (record_stops _ _ _ _ _ c.loop.invariant c.loop-test.true _ c.deref.ensures.value c.in_err-read.ensures)

pub loop-preserved : goal.loop-preserved
loop-preserved g c =
    record_more _ _ _ _ _ c.loop.invariant c.loop-test.true _ c.deref.ensures.value _ c.in_ok-read.ensures (chosen _ _ _ _ c.push.ensures.items (ap is_ok c.in_ok-push.was))
