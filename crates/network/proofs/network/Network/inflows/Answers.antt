use Rattle.std.proofs.Common.{◌<◌, length, ◌∙◌, arith}
use Rattle.network.specs.Code.{roads}
use Rattle.network.specs.Ranges.{sound}
use Rattle.network.proofs.Inflows.{brought_none, brought_more, brought_fits, brought_all, inflows_small}
use Rattle.network.proofs.network.Network.inflows.Goals as goal

pub loop-turn-init : goal.loop-turn-init
loop-turn-init c = brought_none (roads c.args.self.now) c.args.out.now

pub overflow_add-inflows : goal.overflow_add-inflows
overflow_add-inflows c =
    let n = roads c.args.self.now in
    let s = c.deref-turn-items.ensures.value in
    let h : c.loop-turn.turn-index < length n.turns = rw (← s) c.loop-turn-test.true in
    let e = brought_fits n (sound c.args.self.now) c.args.out.now c.loop-turn.turn-index h c.requires in
    let p = c.part.ensures in
    let i = c.loop-turn.invariant in
    simp s (simp i (omega (arith, e, rw s at p)))

pub loop-turn-preserved : goal.loop-turn-preserved
loop-turn-preserved c =
    let n = roads c.args.self.now in
    let s = c.deref-turn-items.ensures.value in
    let h : c.loop-turn.turn-index < length n.turns = rw (← s) c.loop-turn-test.true in
    let e = brought_more n (sound c.args.self.now) c.args.out.now c.loop-turn.turn-index h in
    let p = c.part.ensures in
    cc

pub returns : goal.returns
returns c =
    let n = roads c.args.self.now in
    let e = c.loop-turn.invariant ∙ brought_all n c.args.out.now c.loop-turn.turn-index (omega arith) in
    record { value = e; small = λ j. rw e (inflows_small n c.args.out.now (sound c.args.self.now) c.requires j) }
