use Rattle.std.proofs.Common.{◌≡◌, ◌+◌, leb, true, false, sum_by, sym, ap, ◌∙◌, ◌&&◌, refl, rules, tests}
use Rattle.std.proofs.lemmas.Iterator.{cases_from_all, YieldsList-from_range}
use Rattle.model.specs.State.{every}
use Rattle.network_sheet.specs.Turns.{share_from, within_supply}
use Rattle.network_sheet.proofs.Room.{every_below}
use Rattle.network_sheet.proofs.turn.TurnRecord.has_room.Goals as goal

pub returns-then-fits_with : goal.returns-then-fits_with
returns-then-fits_with c =
    let before = c.args.before.now in
    let t = c.args.turn.now in
    let f = within_supply c.args.self.now.links.now before t in
    let shared : leb (sum_by (share_from t.from) before + t.share) 1000 ≡ true = search rules in
    every_below f 8 c.all.result (cases_from_all _ _ _ (λ k. f k ≡ true) (λ k. f k ≡ false) c.all.ensures.ran (YieldsList-from_range 0 8 8 refl refl) (λ x q k. search (rules, tests)) (λ x q k. search (rules, tests)))
    ∙ ap (λ b. b && every 8 f) (sym shared)
