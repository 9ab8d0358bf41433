use Rattle.std.proofs.Common.{ap, ◌∙◌}
use Rattle.model.specs.State.{capped}
use Rattle.model.specs.Model.{lowest}
use Rattle.model.proofs.Core.{lamps_lit}
use Rattle.network.specs.Code.{roads}
use Rattle.network.specs.Network.{core, verdict_at}
use Rattle.network.specs.Order.{flows_exactly}
use Rattle.network.specs.Ranges.{sound, ready, small}
use Rattle.network.proofs.Stepping.{out_is, step_is}
use Rattle.network.proofs.network.as_model.NetworkQueueModel.step.Goals as goal

pub amounts-amounts-requires : goal.amounts-amounts-requires
amounts-amounts-requires c =
    let n = roads c.args.self.now in
    let r = c.lamps.ensures ∙ lamps_lit (core n) c.args.row in
    let o = out_is n c.args.row c.args.state _ _ _ _ _ c.tops-tops.ensures r c.capped_by-queues.ensures c.wishes-wishes.ensures c.releases-out.ensures in
    small n (sound c.args.self.now) _ _ _
    (ready n (sound c.args.self.now) c.lamps.result c.args.state c.args.arrivals _ _ _ o
    (c.capped_by-queues.ensures ∙ ap (λ xs. capped xs c.args.state) c.tops-tops.ensures)
    (c.capped_by-coming.ensures ∙ ap (λ xs. capped xs c.args.arrivals) c.loads.ensures))

pub returns : goal.returns
returns c =
    let n = roads c.args.self.now in
    let r = c.lamps.ensures ∙ lamps_lit (core n) c.args.row in
    let e = step_is n c.args.row c.args.state _ _ _ _ _ c.tops-tops.ensures r c.capped_by-queues.ensures c.wishes-wishes.ensures c.releases-out.ensures
    c.args.arrivals _ _ _ _
    (c.capped_by-coming.ensures ∙ ap (λ xs. capped xs c.args.arrivals) c.loads.ensures)
    c.amounts-amounts.ensures c.capped_by-next.ensures
    (c.lowest_held-answer.ensures ∙ ap (λ j. lowest j (verdict_at c.wishes-wishes.result c.releases-out.result c.amounts-amounts.result c.tops-tops.result)) c.places.ensures) in
    record { is = e; clear_where_flows = flows_exactly n (sound c.args.self.now) c.args.row c.args.state c.args.arrivals _ (ap (λ s. s.answer) e) }
