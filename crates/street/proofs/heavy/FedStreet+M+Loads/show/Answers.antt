use Rattle.street.specs.Steps.{heavily}
use Rattle.street.proofs.heavy.FedStreet+M+Loads.show.Goals as goal

pub returns-clause-step : goal.returns-clause-step
returns-clause-step g c = heavily g.M.Model.meaning g.met.M.Model.lawful c.args.row c.show.result _ _ c.show.ensures.step
