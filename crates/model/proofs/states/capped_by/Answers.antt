use Rattle.std.proofs.Common.{min, get_or, rules}
use Rattle.model.specs.State.{capped}
use Rattle.model.proofs.Made.{whole_made}
use Rattle.model.proofs.states.capped_by.Goals as goal

pub returns : goal.returns
unfolding capped
returns c = whole_made _ (λ j. min (get_or c.args.state.now j 0) (get_or c.args.bounds.now j 0)) _ (λ i y q call. (search rules, search rules)) _ c.from_fn.ensures.items
