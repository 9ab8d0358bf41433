use Rattle.std.proofs.Common.{rules, arith}
use Rattle.model.proofs.Filled.{filled_none, filled_more, filled_all}
use Rattle.network.specs.Code.{roads}
use Rattle.network.specs.Network.{link, loads}
use Rattle.network.specs.Sizes.{load_past}
use Rattle.network.proofs.network.as_model.NetworkQueueModel.loads.Goals as goal

pub loop-k-init : goal.loop-k-init
loop-k-init c = filled_none _

pub loop-k-preserved : goal.loop-k-preserved
loop-k-preserved c =
    filled_more (λ j. (link (roads c.args.self.now) j).load) c.loop-k.k c.loop-k.loads _
    (omega (arith, c.args.self.now.few)) (search rules) c.loop-k.invariant

pub returns : goal.returns
unfolding loads
returns c =
    let n = roads c.args.self.now in
    filled_all (λ j. (link n j).load) c.loop-k.k c.loop-k.loads c.loop-k.invariant (λ k h. load_past n k (omega arith))
