use Rattle.std.proofs.Common.{sym, subst}
use Rattle.area.specs.Code.{area_of, limits_of}
use Rattle.day.specs.declared.call.DayCall.TheVariants.{Change}
use Rattle.day.specs.Running.{held, InHand, area_call, RanAs}
use Rattle.day.proofs.Keeping.{change_safe}
use Rattle.day.proofs.run.run_call.Goals as goal

pub returns-in-Change-Some : goal.returns-in-Change-Some
returns-in-Change-Some g c =
    let meaning = g.S.Model.meaning in
    let seen = g.S.Street.seen in
    let bs = c.args.sheet.now in
    let a = c.args.area.now in
    let b = c.run_change.new.area in
    let r = c.run_change.result in
    let n = c.in-Change-Some.number in
    let d = c.in-Change-Some.duty.area in
    let e = c.run_change.ensures in
    record {
      does =
          subst (λ call. RanAs meaning seen (area_call bs call (held c.args.hand)) call a (held c.args.hand) r.done b (held r.hand)) (sym c.in-Change-Some.is-0)
          (subst (λ h. RanAs meaning seen (area_call bs (Change n) (held h)) (Change n) a (held h) r.done b (held r.hand)) (sym c.in-Change-Some.is-1) e);
      safe =
          change_safe (meaning a.street) (limits_of a) (area_of seen a) (area_of seen b) d n e.0 (held r.hand) e.1.does e.3
          (subst (λ h. InHand (area_of seen a) (held h)) c.in-Change-Some.is-1 c.requires);
    }
