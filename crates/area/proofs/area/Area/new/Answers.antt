use Rattle.std.proofs.Common.{vec_items, refl}
use Rattle.lives.specs.Lives.{fresh}
use Rattle.lives.proofs.Promised.{promised}
use Rattle.lives.proofs.Sample.{covered_life}
use Rattle.area.proofs.area.Area.new.Goals as goal

pub returns : goal.returns
returns g c =
    let street = c.args.street in
    rw c.off_line-position.ensures
    (record {
      street = refl;
      limits = refl;
      fresh = refl;
      life = fresh c.args.number (g.S.Street.seen street) c.queue.ensures.within;
      promises = promised (g.S.Model.meaning street) (g.met.S.Model.lawful street) (vec_items c.args.limits);
      not_empty = covered_life;
    })
