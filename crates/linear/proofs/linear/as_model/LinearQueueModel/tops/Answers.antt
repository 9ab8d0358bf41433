use Rattle.std.proofs.Common.{rules, arith}
use Rattle.model.proofs.Filled.{filled_none, filled_more, filled_all}
use Rattle.linear.specs.Code.{lines}
use Rattle.linear.specs.Lines.{place, tops}
use Rattle.linear.specs.Sizes.{top_past}
use Rattle.linear.proofs.linear.as_model.LinearQueueModel.tops.Goals as goal

pub loop-k-init : goal.loop-k-init
loop-k-init c = filled_none _

pub loop-k-preserved : goal.loop-k-preserved
loop-k-preserved c =
    filled_more (λ j. (place (lines c.args.self.now) j).top) c.loop-k.k c.loop-k.tops _
    (omega (arith, c.args.self.now.few)) (search rules) c.loop-k.invariant

pub returns : goal.returns
unfolding tops
returns c =
    let n = lines c.args.self.now in
    filled_all (λ j. (place n j).top) c.loop-k.k c.loop-k.tops c.loop-k.invariant (λ k h. top_past n k (omega arith))
