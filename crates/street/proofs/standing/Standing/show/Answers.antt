use Rattle.std.proofs.Common.{rules}
use Rattle.street.specs.Standing.{seen_of}
use Rattle.street.specs.Moving.{after_is, moved_showed, bounded}
use Rattle.street.proofs.standing.Standing.show.Goals as goal

pub returns : goal.returns
returns g c =
    let model = c.args.model.now in
    let m = g.M.Model.meaning model in
    let law = g.met.M.Model.lawful model in
    let s = c.args.self.now in
    let answer = c.answer_for-answer in
    let is = after_is m law s c.args.marked c.args.row c.args.arrivals answer.result answer.ensures c.lamps_under-lamps.result c.lamps_under-lamps.ensures c.queues_after-queues.result c.queues_after-queues.ensures in
    record {
      answer = answer.ensures;
      exact = is;
      moved = moved_showed m law c.args.marked c.args.row c.args.arrivals (seen_of m s) _ answer.result answer.ensures is;
      within = search (rules, bounded m law);
    }
