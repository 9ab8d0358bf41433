use Rattle.std.proofs.Common.{◌≡◌, ◌-◌, take, replicate}
use Rattle.refusal.specs.Questions.{turns}
use Rattle.words.specs.Tables.{written}
use Rattle.records.specs.Sections.{next_record, records_at}
use Rattle.records.proofs.read_table.Given as goal

abbrev pub invariant-loop-k : goal.invariant-loop-k
invariant-loop-k g l = record {
  read :
      turns (next_record (g.R.Record.reads l.kind l.bytes)) (l.k-end - l.k) l.k (record { items = take l.k l.table; end = l.end })
      ≡ records_at (g.R.Record.reads l.kind l.bytes) l.at l.k-end;
  held : l.table ≡ written (replicate g.row.N l.fn.rest) 0 (take l.k l.table);
}
