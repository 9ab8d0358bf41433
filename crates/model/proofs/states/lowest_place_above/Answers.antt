use Rattle.std.proofs.Common.{ltb, true, false, rules, tests, ◌≡◌, ◌∙◌}
use Rattle.std.proofs.lemmas.Iterator.{IsFirst-from_position, YieldsList-from_slice, YieldsList-from_zip}
use Rattle.model.proofs.Chains.{above_zip}
use Rattle.model.proofs.states.lowest_place_above.Goals as goal

pub returns : goal.returns
returns c =
    search rules ∙ above_zip c.args.state.now c.args.other.now 64 c.told-state c.told-other c.position-above.result
    (IsFirst-from_position c.position-above.new.self _ c.position-above.result (λ p. ltb p.1 p.0 ≡ true) (λ p. ltb p.1 p.0 ≡ false) c.position-above.ensures.ran (YieldsList-from_zip (YieldsList-from_slice c.args.state.now cc) (YieldsList-from_slice c.args.other.now cc)) (λ x q k. search (rules, tests)) (λ x q k. search (rules, tests)))
