use Rattle.std.proofs.Common.{◌≡◌, drop, vec_items, ◌∙◌}
use Rattle.plan_sheet.specs.Accepts.{checked_sheet}
use Rattle.model_sheet.specs.Content.{content_by}
use Rattle.verdict.specs.Judged.{verdict_of}
use Rattle.verdict.proofs.Models.{judged_read, judged_fault}
use Rattle.verdict.proofs.judge.judge_model.Goals as goal

pub returns-in-Ok : goal.returns-in-Ok
returns-in-Ok g c =
    let bs = c.args.input.now in
    let v = c.in-Ok.read in
    let h = c.in-Ok.ensures in
    let meaning = g.S.Made.Model.meaning in
    let plan : c.judge_plan.result ≡ verdict_of (checked_sheet (meaning v.model) (vec_items v.limits) (drop v.end bs)) =
    c.judge_plan.ensures ∙ (λ i. verdict_of (checked_sheet (meaning v.model) (c.as_slice.ensures.value i) (c.rest_of.ensures i))) in
    let e = judged_read (content_by meaning) (g.S.ModelSheet.says bs) bs (g.S.ModelSheet.sheet bs) v (g.met.S.Made.Model.lawful v.model) h.is h.exact c.judge_plan.result plan in
    record { is = e.0; right = e.1 }

pub returns-in-Err : goal.returns-in-Err
returns-in-Err g c =
    let bs = c.args.input.now in
    let h = c.in-Err.ensures in
    let e = judged_fault (content_by g.S.Made.Model.meaning) (g.S.ModelSheet.says bs) bs (g.S.ModelSheet.sheet bs) c.in-Err.why c.judge_fault.result c.judge_fault.ensures h.is h.exact in
    record { is = e.0; right = e.1 }
