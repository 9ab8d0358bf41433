use Rattle.std.proofs.Common.{◌<◌, length, refl, arith}
use Rattle.std.proofs.lemmas.List.{take_all}
use Rattle.model.proofs.State.{whole_is}
use Rattle.network.specs.Code.{roads}
use Rattle.network.specs.Parts.{eased}
use Rattle.network.specs.Easing.{eased_more}
use Rattle.network.specs.Ranges.{sound}
use Rattle.network.proofs.network.Network.releases.Goals as goal

pub loop-turn-init : goal.loop-turn-init
loop-turn-init c = whole_is _ c.args.asked.now (omega arith) (λ k h. refl)

pub loop-turn-preserved : goal.loop-turn-preserved
loop-turn-preserved c =
    let n = roads c.args.self.now in
    let s = c.deref-turn-items.ensures.value in
    let h : c.loop-turn.turn-index < length n.turns = rw (← s) c.loop-turn-test.true in
    let e = eased_more n (sound c.args.self.now) c.args.queues.now c.args.asked.now c.loop-turn.turn-index h in
    let p = c.passage.ensures in
    let m = c.min.ensures in
    cc

pub returns : goal.returns
unfolding eased
returns c =
    let n = roads c.args.self.now in
    let e = take_all c.loop-turn.turn-index n.turns (omega arith) in
    rw e at c.loop-turn.invariant
