use Rattle.linear.specs.Code.{lines}
use Rattle.linear.specs.Ranges.{sound}
use Rattle.linear.specs.Sizes.{top_told, load_told}
use Rattle.linear.proofs.linear.Linear.place.Goals as goal

pub returns-clause-top : goal.returns-clause-top
returns-clause-top c =
    let n = lines c.args.self.now in
    let p = c.in_ok-checked_sub.ensures in
    top_told n (sound c.args.self.now) c.args.number c.in_ok-checked_sub.field-0 p.0 p.1 c.get.result (rw c.deref.ensures.value at c.get.ensures.lookup)

pub returns-clause-load : goal.returns-clause-load
returns-clause-load c =
    let n = lines c.args.self.now in
    let p = c.in_ok-checked_sub.ensures in
    load_told n (sound c.args.self.now) c.args.number c.in_ok-checked_sub.field-0 p.0 p.1 c.get.result (rw c.deref.ensures.value at c.get.ensures.lookup)
