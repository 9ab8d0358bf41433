use Rattle.street.specs.Steps.{heavily}
use Rattle.street.proofs.heavy.FedStreet+M+Loads.new.Goals as goal

pub returns-clause-steps : goal.returns-clause-steps
returns-clause-steps g c = heavily g.M.Model.meaning g.met.M.Model.lawful
