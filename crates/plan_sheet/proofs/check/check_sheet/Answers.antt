use Rattle.std.proofs.Common.{Ok, sym, ap, ◌∙◌}
use Rattle.std.proofs.lemmas.Result.{err_from_is_err_and}
use Rattle.plan_sheet.proofs.Accepting.{timing_counts}
use Rattle.plan_sheet.proofs.check.check_sheet.Goals as goal

pub returns-in_err-accepted_plan-clause-is : goal.returns-in_err-accepted_plan-clause-is
returns-in_err-accepted_plan-clause-is g c =
    let p = err_from_is_err_and c.from_residual.result c.from_residual.ensures.1 in
    rw (p.1, p.2) (sym (timing_counts (g.M.Model.meaning c.args.model.now) c.args.limits.now c.args.bytes.now _ c.in_err-accepted_plan.ensures.is))

pub returns-clause-is : goal.returns-clause-is
returns-clause-is g c =
    ap Ok c.length.ensures
    ∙ sym (timing_counts (g.M.Model.meaning c.args.model.now) c.args.limits.now c.args.bytes.now _ c.in_ok-accepted_plan.ensures.is)
