use Rattle.std.proofs.Common.{arith}
use Rattle.model.proofs.Filled.{filled_none, filled_more, filled_all}
use Rattle.linear.specs.Code.{lines}
use Rattle.linear.specs.Lines.{inside, amount, amounts}
use Rattle.linear.specs.Sizes.{inside_at, inside_past}
use Rattle.linear.proofs.linear.Linear.amounts.Goals as goal

pub loop-k-init : goal.loop-k-init
loop-k-init c = filled_none _

pub loop-k-preserved : goal.loop-k-preserved
loop-k-preserved c =
    let n = lines c.args.self.now in
    let f = amount n c.args.mode c.args.values.now c.args.arrivals.now in
    filled_more (inside n f) c.loop-k.k c.loop-k.amounts c.amount.result (omega (arith, c.args.self.now.few))
    (rw (inside_at n c.loop-k.k (omega arith) f) c.amount.ensures) c.loop-k.invariant

pub returns : goal.returns
unfolding amounts
returns c =
    let n = lines c.args.self.now in
    let f = amount n c.args.mode c.args.values.now c.args.arrivals.now in
    filled_all (inside n f) c.loop-k.k c.loop-k.amounts c.loop-k.invariant (λ k h. inside_past n k (omega arith) f)
