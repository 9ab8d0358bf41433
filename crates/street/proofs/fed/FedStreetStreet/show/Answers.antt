use Rattle.std.proofs.Common.{refl}
use Rattle.street.proofs.fed.FedStreetStreet.show.Goals as goal

pub returns : goal.returns
returns g c =
    let m = g.M.Model.meaning c.args.self.now.model in
    let group = c.bring-dark.result in
    let e = c.show.ensures in
    record {
      moved = e.moved;
      model = refl {a = m};
      within = e.within;
      step = record { group = group; brought = rw c.lamps.ensures at c.bring-dark.ensures; answers = e.answer; moves = e.exact; model = refl {a = m} };
    }
