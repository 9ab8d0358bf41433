use Rattle.std.proofs.Common.{rules, arith}
use Rattle.model.proofs.Made.{told_made}
use Rattle.street.specs.Street.{Bounded}
use Rattle.street.proofs.queues.queues_of.Goals as goal

pub returns : goal.returns
returns g c =
    let s = c.args.street.now in
    let seen = g.S.Street.seen s in
    let items = c.from_fn.ensures.items in
    let first = (items.at 0 0 (omega arith)).2 in
    let within : Bounded (g.S.Model.meaning s) seen = search rules in
    told_made _ seen.queues _ (λ i y q call. (search rules, search rules)) c.from_fn.result within.queues.size items
