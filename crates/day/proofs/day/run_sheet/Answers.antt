use Rattle.std.proofs.Common.{◌≡◌, None, vec_items, string_bytes, ap, ◌∙◌, subst}
use Rattle.std.proofs.lemmas.Result.{IfOk-weaker}
use Rattle.model.specs.Model.{Meaning}
use Rattle.street.specs.Fed.{fed_seen}
use Rattle.lives.specs.Area.{Area, fresh_book}
use Rattle.area.specs.Code.{area_of, limits_of}
use Rattle.day.specs.Day.{DaySaid, day_of}
use Rattle.day.specs.Whole.{Lines, After, DayLines, fresh_area}
use Rattle.day.proofs.Whole.{fresh_lines}
use Rattle.day.proofs.day.run_sheet.Goals as goal

pub returns-in-Ok : goal.returns-in-Ok
returns-in-Ok g c =
    let m : Meaning = g.M.Model.meaning c.args.model in
    let bs = c.args.sheet.now in
    let ls = vec_items c.args.limits in
    let d : DaySaid = day_of c.in-Ok.day in
    let street = c.new-street.ensures in
    let made = c.new-area.ensures in
    let a = c.new-area.result in
    let model : g.M.Model.meaning a.street.model ≡ m = ap (λ s. g.M.Model.meaning s.model) made.street ∙ street.model in
    let area : Area = area_of (fed_seen g.M.Model.meaning) a in
    let fresh : area ≡ fresh_area m d = made.fresh ∙ (λ i. record { number = d.number; book = fresh_book (street.model i); street = street.seen i }) in
    IfOk-weaker c.run_calls.result
    (λ s. Lines (g.M.Model.meaning a.street.model) (limits_of a) bs c.places-places.result c.as_slice-in-Ok.result.now area None (string_bytes s))
    (λ s. DayLines m ls bs (string_bytes s))
    (λ s x. subst (λ t. After (λ e. Lines m ls bs m.places e.calls (fresh_area m e) None) t (string_bytes s)) c.in-Ok.ensures
    (fresh_lines m _ ls _ bs _ d _ area (string_bytes s) model made.limits c.places-places.ensures c.as_slice-in-Ok.ensures.value fresh x))
    c.run_calls.ensures
