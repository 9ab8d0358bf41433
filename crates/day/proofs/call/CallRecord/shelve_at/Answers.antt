use Rattle.std.proofs.Common.{◌+◌, ◌≤◌, length, refl, rules}
use Rattle.plan_sheet.specs.Views.{plan_said}
use Rattle.day.proofs.Within.{plan_within}
use Rattle.day.proofs.call.CallRecord.shelve_at.Goals as goal

pub overflow_add-result : goal.overflow_add-result
overflow_add-result g c =
    let p = plan_said c.in_ok-plan.plan in
    let says = (c.in_ok-plan.ensures.exact p).0 refl in
    let end = c.in_ok-shelf.shelf.end in
    let w : end + p.end ≤ length c.args.bytes.now = plan_within _ c.args.bytes.now _ end p c.rest_of.ensures says in
    search rules
