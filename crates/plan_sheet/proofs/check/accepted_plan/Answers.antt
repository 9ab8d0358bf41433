use Rattle.std.proofs.Common.{Ok, Err, sym}
use Rattle.std.proofs.lemmas.Result.{err_from_is_err_and}
use Rattle.plan_sheet.proofs.Accepting.{says_none, says_one, timing_read, timing_unread, timing_refused}
use Rattle.plan_sheet.proofs.check.accepted_plan.Goals as goal

pub returns-in_err-read : goal.returns-in_err-read
returns-in_err-read g c =
    let p = err_from_is_err_and c.from_residual.result c.from_residual.ensures.1 in
    rw (p.1, p.2)
    (record {
      is = sym (timing_unread (g.M.Model.meaning c.args.model.now) c.args.limits.now c.args.bytes.now _ (sym c.in_err-read.ensures.is));
      accepts = says_none _ _ _ _ c.in_err-read.ensures.exact;
    })

pub returns-in_err-check_plan : goal.returns-in_err-check_plan
returns-in_err-check_plan g c =
    let p = err_from_is_err_and c.from_residual-in_err-check_plan.result c.from_residual-in_err-check_plan.ensures.1 in
    let h = c.in_ok-read.ensures in
    rw (p.1, p.2)
    (record {
      is = sym (timing_refused (g.M.Model.meaning c.args.model.now) c.args.limits.now c.args.bytes.now _ _ (sym h.is) (sym c.in_err-check_plan.ensures));
      accepts = says_one _ _ _ (g.met.M.Model.lawful c.args.model.now) _ (Err c.in_err-check_plan.field-0.0) h.exact c.in_err-check_plan.ensures;
    })

pub returns : goal.returns
returns g c =
    let h = c.in_ok-read.ensures in
    record {
      is = sym (timing_read (g.M.Model.meaning c.args.model.now) c.args.limits.now c.args.bytes.now _ _ (sym h.is) (sym c.in_ok-check_plan.ensures));
      accepts = says_one _ _ _ (g.met.M.Model.lawful c.args.model.now) _ (Ok c.in_ok-check_plan.field-0) h.exact c.in_ok-check_plan.ensures;
    }
