use Rattle.std.proofs.Common.{refl}
use Rattle.plan.specs.Check.{timing_of}
use Rattle.area.specs.Code.{area_of, limits_of}
use Rattle.area.proofs.Shelf.{put_in}
use Rattle.area.proofs.Asking.{shelved}
use Rattle.area.proofs.area.Area.shelve.Goals as goal

pub returns : goal.returns
returns g c =
    let a = c.args.self.now in
    let n = c.args.number in
    let plan = c.in_ok-plan.plan in
    let free = c.in_ok-place.ensures in
    record {
      does = shelved (g.S.Model.meaning a.street) (limits_of a) (area_of g.S.Street.seen a) n c.args.sheet.now (timing_of plan) _ _
          free.asked c.in_ok-plan.ensures c.length-count.ensures (put_in a.book.shelf n c.in_ok-place.place plan free.place.1);
      model = refl;
      limits = refl;
      still = λ _. refl;
    }
