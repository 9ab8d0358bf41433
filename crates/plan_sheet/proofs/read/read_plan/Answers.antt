use Rattle.std.proofs.Common.{◌≡◌, Err, sym, ◌∙◌}
use Rattle.std.proofs.lemmas.Result.{err_from_is_err_and}
use Rattle.refusal.proofs.Turning.{then_ok, then_err}
use Rattle.words.specs.Faults.{sheet_refusal}
use Rattle.plan_sheet.specs.Plans.{plan_sheet}
use Rattle.plan_sheet.specs.Views.{plan_told}
use Rattle.plan_sheet.proofs.Exactness.{exact_at}
use Rattle.plan_sheet.proofs.read.read_plan.Goals as goal

pub returns-in_err-start : goal.returns-in_err-start
returns-in_err-start g c =
    let m = g.M.Model.meaning c.args.model.now in
    let bs = c.args.bytes.now in
    let p = err_from_is_err_and c.from_residual-in_err-start.result c.from_residual-in_err-start.ensures.1 in
    let is : Err (sheet_refusal c.in_err-start.field-0.0) ≡ plan_sheet m bs = sym (then_ok _ (sym c.in_ok-short_enough.ensures) ∙ then_err _ (sym c.in_err-start.ensures)) in
    rw (p.1, p.2) (record { is = is; exact = exact_at m bs (g.met.M.Model.lawful c.args.model.now) _ is })

pub returns : goal.returns
returns g c =
    let m = g.M.Model.meaning c.args.model.now in
    let bs = c.args.bytes.now in
    let is : plan_told c.rows_section.result ≡ plan_sheet m bs = c.rows_section.ensures ∙ sym (then_ok _ (sym c.in_ok-short_enough.ensures) ∙ then_ok _ (sym c.in_ok-start.ensures)) in
    record { is = is; exact = exact_at m bs (g.met.M.Model.lawful c.args.model.now) _ is }
