use Rattle.street.specs.Steps.{by_groups}
use Rattle.street.proofs.counted.FedStreet+M+Groups.show.Goals as goal

pub returns-clause-step : goal.returns-clause-step
returns-clause-step g c = by_groups g.M.Model.meaning g.met.M.Model.lawful c.args.row c.show.result _ _ c.show.ensures.step
