use Rattle.std.proofs.Common.{rules, arith}
use Rattle.model.proofs.Filled.{filled_none, filled_more, filled_all}
use Rattle.linear.specs.Code.{lines}
use Rattle.linear.specs.Lines.{place, loads}
use Rattle.linear.specs.Sizes.{load_past}
use Rattle.linear.proofs.linear.as_model.LinearQueueModel.loads.Goals as goal

pub loop-k-init : goal.loop-k-init
loop-k-init c = filled_none _

pub loop-k-preserved : goal.loop-k-preserved
loop-k-preserved c =
    filled_more (λ j. (place (lines c.args.self.now) j).load) c.loop-k.k c.loop-k.loads _
    (omega (arith, c.args.self.now.few)) (search rules) c.loop-k.invariant

pub returns : goal.returns
unfolding loads
returns c =
    let n = lines c.args.self.now in
    filled_all (λ j. (place n j).load) c.loop-k.k c.loop-k.loads c.loop-k.invariant (λ k h. load_past n k (omega arith))
