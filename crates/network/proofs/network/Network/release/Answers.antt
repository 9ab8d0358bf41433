use Rattle.std.proofs.Common.{ap, ◌∙◌}
use Rattle.model.specs.State.{told}
use Rattle.model.proofs.Core.{lamps_lit}
use Rattle.network.specs.Code.{roads}
use Rattle.network.specs.Network.{core}
use Rattle.network.specs.Ranges.{sound, lets_out}
use Rattle.network.proofs.Stepping.{let_out_is}
use Rattle.network.proofs.network.Network.release.Goals as goal

pub returns : goal.returns
returns c =
    let n = roads c.args.self.now in
    let o = let_out_is n c.args.row c.args.state _ _ _ _ _ c.tops.ensures (c.lamps.ensures ∙ lamps_lit (core n) c.args.row) c.capped_by-queues.ensures c.wishes-wishes.ensures c.releases.ensures in
    let e = c.number_at.ensures ∙ ap (λ xs. told xs c.args.link) o in
    record { value = e; greatest = lets_out n (sound c.args.self.now) c.args.row c.args.state c.args.link _ e }
