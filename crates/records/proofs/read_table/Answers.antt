use Rattle.std.proofs.Common.{refl, arith}
use Rattle.records.proofs.Steps.{record_more, table_more}
use Rattle.records.proofs.read_table.Goals as goal

pub loop-k-preserved : goal.loop-k-preserved
loop-k-preserved g c =
    let t = table_more _ _ c.loop-k.table c.loop-k.k c.in_ok-read.read.item (omega arith) c.loop-k.invariant.held in
    record {
      read = record_more _ _ _ _ _ c.loop-k.invariant.read c.loop-k-test.true _ refl _ c.in_ok-read.ensures t.0;
      held = t.1;
    }
