use Rattle.street.specs.Moving.{bounded}
use Rattle.street.proofs.standing.Standing.lamp.Goals as goal

pub returns-clause-within : goal.returns-clause-within
returns-clause-within g c = let model = c.args.model.now in bounded (g.M.Model.meaning model) (g.met.M.Model.lawful model) c.args.self.now
