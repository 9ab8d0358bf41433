use Rattle.street.proofs.Using.{used_more}
use Rattle.street.proofs.counted.GroupsFeed.bring.Goals as goal

pub returns : goal.returns
returns g c = record { comes = c.first-group.ensures; uses = used_more c.args.self.now _ c.min-self.ensures }
