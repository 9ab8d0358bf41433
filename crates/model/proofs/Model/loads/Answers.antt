use Rattle.std.proofs.Common.{rules}
use Rattle.model.proofs.Made.{told_made}
use Rattle.model.proofs.Model.loads.Goals as goal

pub returns : goal.returns
returns g c =
    let m = c.args.self.now in
    told_made _ (g.Self.Model.meaning m).loads _ (λ i y q call. (search rules, search rules)) c.from_fn.result (g.met.Self.Model.lawful m).whole_loads c.from_fn.ensures.items
