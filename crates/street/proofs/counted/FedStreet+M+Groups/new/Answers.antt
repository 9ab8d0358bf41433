use Rattle.street.specs.Steps.{by_groups}
use Rattle.street.proofs.counted.FedStreet+M+Groups.new.Goals as goal

pub returns-clause-steps : goal.returns-clause-steps
returns-clause-steps g c = by_groups g.M.Model.meaning g.met.M.Model.lawful
