use Rattle.std.proofs.Common.{◌≡◌, ◌-◌, vec_items}
use Rattle.refusal.specs.Questions.{turns}
use Rattle.records.specs.Sections.{next_record, records_at}
use Rattle.records.proofs.read_records.Given as goal

abbrev pub invariant-loop : goal.invariant-loop
invariant-loop g l =
    turns (next_record (g.R.Record.reads l.kind l.bytes)) (l.count - l.counter) l.counter (record { items = vec_items l.items; end = l.end })
    ≡ records_at (g.R.Record.reads l.kind l.bytes) l.at l.count
