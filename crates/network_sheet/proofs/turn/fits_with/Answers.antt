use Rattle.std.proofs.Common.{rules, tests, ◌≡◌, ℕ, ◌+◌, sum_by, refl, ◌∙◌, arith}
use Rattle.std.proofs.lemmas.Fn.{says_at}
use Rattle.std.proofs.lemmas.Iterator.{YieldsList-from_slice, YieldsList-from_map}
use Rattle.std.proofs.lemmas.Iterator.Consumers.{sum_by_from_yields_List}
use denote.Ref.{Bor}
use Rattle.network.specs.declared.links.Turn.{Turn}
use Rattle.network_sheet.proofs.Room.{under_cap}
use Rattle.network_sheet.proofs.turn.fits_with.Goals as goal

pub returns : goal.returns
returns g c = λ h gives.
    let before = c.args.before.now in
    let by_call : (t : Bor Turn) (r s : ℕ) → g.F.Fn.post c.args.part (t, tt) s → r ≡ s → r ≡ h t.now = λ t r s p e. e ∙ gives t.now s (says_at g.F.Fn p refl) in
    let sum : c.sum-others.result ≡ sum_by h before = sum_by_from_yields_List h before c.map.result c.sum-others.result c.sum-others.ensures.ran (YieldsList-from_map _ h (YieldsList-from_slice before cc) c.map.ensures.closure (λ x r q k. (search (rules, tests), search (rules, by_call)))) in
    let own : c.from.result ≡ h c.args.turn.now = by_call c.args.turn c.from.result c.part.result c.part.ensures c.from.ensures in
    rw (c.saturating_add.ensures, sum, own) (under_cap (sum_by h before + h c.args.turn.now) _ (omega arith))
