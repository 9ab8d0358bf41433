use Rattle.std.proofs.Common.{rules, arith}
use Rattle.model.proofs.Filled.{filled_none, filled_more, filled_all}
use Rattle.network.specs.Code.{roads}
use Rattle.network.specs.Network.{wish, wishes}
use Rattle.network.specs.Sizes.{wish_past}
use Rattle.network.proofs.network.Network.wishes.Goals as goal

pub loop-k-init : goal.loop-k-init
loop-k-init c = filled_none _

pub loop-k-preserved : goal.loop-k-preserved
unfolding wish
loop-k-preserved c =
    filled_more (wish (roads c.args.self.now) c.args.row.now c.args.queues.now) c.loop-k.k c.loop-k.wishes _
    (omega (arith, c.args.self.now.few)) (search rules) c.loop-k.invariant

pub returns : goal.returns
unfolding wishes
returns c =
    let n = roads c.args.self.now in
    filled_all (wish n c.args.row.now c.args.queues.now) c.loop-k.k c.loop-k.wishes c.loop-k.invariant
    (λ k h. wish_past n k (omega arith) c.args.row.now c.args.queues.now)
