use Rattle.std.proofs.Common.{◌∙◌, get_or, rules, arith}
use Rattle.model.proofs.Made.{whole_made}
use Rattle.network.specs.Code.{roads}
use Rattle.network.specs.Network.{queue_after, amount, amounts}
use Rattle.network.specs.Whole.{whole_same}
use Rattle.network.proofs.Inflows.{amount_is}
use Rattle.network.proofs.network.Network.amounts.Goals as goal

pub inflows-inflows-requires : goal.inflows-inflows-requires
inflows-inflows-requires c = λ j. omega (arith, c.requires.leaving j, c.requires.queued j)

pub returns : goal.returns
unfolding amounts
returns c =
    let n = roads c.args.self.now in
    let o = c.args.out.now in
    let q = c.args.queues.now in
    let v = c.args.arrivals.now in
    let i = c.inflows-inflows.result in
    whole_made _ (λ k. queue_after o q v k (get_or i k 0)) _ (λ k y f call. (search rules, search rules)) _ c.from_fn.ensures.items
    ∙ whole_same (λ k. queue_after o q v k (get_or i k 0)) (amount n o q v) (amount_is n o q v i c.inflows-inflows.ensures.value)
