use Rattle.std.proofs.Common.{ap, ◌∙◌}
use Rattle.model.specs.State.{capped}
use Rattle.model.proofs.Core.{lamps_lit}
use Rattle.linear.specs.Code.{lines}
use Rattle.linear.specs.Lines.{core}
use Rattle.linear.specs.Order.{fits_exactly}
use Rattle.linear.specs.Ranges.{sound, ready}
use Rattle.linear.proofs.Stepping.{step_is}
use Rattle.linear.proofs.linear.as_model.LinearQueueModel.step.Goals as goal

pub amounts-amounts-requires : goal.amounts-amounts-requires
amounts-amounts-requires c =
    let n = lines c.args.self.now in
    ready n (sound c.args.self.now) c.args.row c.args.state c.args.arrivals _ _ _
    (c.lamps-lamps.ensures ∙ lamps_lit (core n) c.args.row)
    (c.capped_by-values.ensures ∙ ap (λ xs. capped xs c.args.state) c.tops-tops.ensures)
    (c.capped_by-coming.ensures ∙ ap (λ xs. capped xs c.args.arrivals) c.loads.ensures)

pub returns : goal.returns
returns c =
    let n = lines c.args.self.now in
    let e = step_is n c.args.row c.args.state c.args.arrivals _ _ _ _ _ _ _ _
    c.tops-tops.ensures (c.lamps-lamps.ensures ∙ lamps_lit (core n) c.args.row) c.capped_by-values.ensures
    (c.capped_by-coming.ensures ∙ ap (λ xs. capped xs c.args.arrivals) c.loads.ensures)
    c.amounts-amounts.ensures c.capped_by-next.ensures c.lowest_place_above.ensures c.verdict-answer.ensures in
    record { is = e; clear_where_fits = fits_exactly n (sound c.args.self.now) c.args.row c.args.state c.args.arrivals _ (ap (λ s. s.answer) e) }
