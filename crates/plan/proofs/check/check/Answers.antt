use Rattle.std.proofs.Common.{◌≤◌, length, Err, subst, sym, ap, ◌∙◌, arith, length-take}
use Rattle.std.proofs.lemmas.Result.{err_from_is_err_and}
use Rattle.refusal.specs.Questions.{told_by}
use Rattle.refusal.proofs.Turning.{then_ok, then_err}
use Rattle.plan.specs.Faults.{check_refusal}
use Rattle.plan.specs.Accepts.{Checked}
use Rattle.plan.proofs.Accepts.{rows_stop, rows_done}
use Rattle.plan.proofs.Runs.{promised}
use Rattle.plan.proofs.check.check.Goals as goal

pub returns-in_err-state : goal.returns-in_err-state
returns-in_err-state g c =
    let m = g.M.Model.meaning c.args.model.now in
    let plan = c.args.plan.now in
    let rs = c.rows-rows.result.now in
    let p = err_from_is_err_and c.from_residual.result c.from_residual.ensures.1 in
    let long : 1 ≤ length rs = omega (arith, ap length c.rows-rows.ensures, length-take plan.count plan.rows) in
    subst (λ ks. Checked m c.args.limits.now plan.start ks c.from_residual.result) c.rows-rows.ensures
    (promised m (g.met.M.Model.lawful c.args.model.now) c.args.limits.now plan.start rs _ (omega arith) long
    (ap (told_by check_refusal) (p.1 ∙ ap Err p.2)
    ∙ sym (then_err _ (sym c.loop-n.invariant ∙ rows_stop m c.args.limits.now rs c.loop-n.n c.loop-n.state c.loop-n-test.true _ c.in_err-state.ensures))))

pub returns : goal.returns
returns g c =
    let m = g.M.Model.meaning c.args.model.now in
    let plan = c.args.plan.now in
    let rs = c.rows-rows.result.now in
    let long : 1 ≤ length rs = omega (arith, ap length c.rows-rows.ensures, length-take plan.count plan.rows) in
    subst (λ ks. Checked m c.args.limits.now plan.start ks c.pass_end.result) c.rows-rows.ensures
    (promised m (g.met.M.Model.lawful c.args.model.now) c.args.limits.now plan.start rs _ (omega arith) long
    (c.pass_end.ensures
    ∙ sym (then_ok _ (sym c.loop-n.invariant ∙ rows_done m c.args.limits.now rs c.loop-n.n c.loop-n.state c.loop-n-test.false))))
