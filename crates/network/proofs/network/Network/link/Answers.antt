use Rattle.network.specs.Code.{roads}
use Rattle.network.specs.Ranges.{sound, top_told, load_told}
use Rattle.network.proofs.network.Network.link.Goals as goal

pub returns-clause-top : goal.returns-clause-top
returns-clause-top c =
    let n = roads c.args.self.now in
    let p = c.in_ok-checked_sub.ensures in
    top_told n (sound c.args.self.now) c.args.place c.in_ok-checked_sub.field-0 p.0 p.1 c.get.result (rw c.deref.ensures.value at c.get.ensures.lookup)

pub returns-clause-load : goal.returns-clause-load
returns-clause-load c =
    let n = roads c.args.self.now in
    let p = c.in_ok-checked_sub.ensures in
    load_told n (sound c.args.self.now) c.args.place c.in_ok-checked_sub.field-0 p.0 p.1 c.get.result (rw c.deref.ensures.value at c.get.ensures.lookup)
