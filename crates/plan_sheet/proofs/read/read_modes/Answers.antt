use Rattle.std.proofs.Common.{◌≡◌, ◌-◌, replicate, ap, ◌∙◌, arith, rules}
use Rattle.refusal.specs.Questions.{turns}
use Rattle.words.proofs.Folding.{told_turns}
use Rattle.plan_sheet.specs.Plans.{mode_at}
use Rattle.plan_sheet.proofs.read.read_modes.Goals as goal

pub returns : goal.returns
returns g c =
    let bs = c.args.bytes.now in
    let count : c.signals.result - 0 ≡ (g.M.Model.meaning c.args.model.now).signals = omega (arith, c.signals.ensures) in
    told_turns _ _ _ _ _ c.try_fold.result c.try_fold.ensures.ran (mode_at bs) (λ s k r q call. search rules)
    ∙ ap (λ n. turns (mode_at bs) n 0 (record { value = replicate 32 0; place = c.args.at; end = c.args.at })) count
