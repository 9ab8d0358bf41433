use Rattle.std.proofs.Common.{vec_items, ap, ◌∙◌}
use Rattle.street.specs.Fed.{fed_seen}
use Rattle.lives.specs.Area.{fresh_book}
use Rattle.area.proofs.Shelving.{shelved_new}
use Rattle.area.proofs.area.first.shelve_first.Goals as goal

pub returns : goal.returns
returns g c =
    let street = c.new-street.result in
    let made = c.new-area.ensures in
    let same = c.new-street.ensures.model in
    let seen = fed_seen g.M.Model.meaning street in
    shelved_new (g.M.Model.meaning c.args.model) _ (vec_items c.args.limits) _ c.args.sheet.now _ 1 seen c.under_first.result
    (ap (λ t. g.M.Model.meaning t.model) made.street ∙ same) made.limits
    (made.fresh ∙ (λ i. record { number = 1; book = fresh_book (same i); street = seen })) c.under_first.ensures.does.answer
