use Rattle.std.proofs.Common.{◌≡◌, ◌≢◌, ◌∙◌, rules, tests, arith}
use Rattle.std.proofs.lemmas.Iterator.{first_from_find, YieldsList-from_map, YieldsList-from_range}
use Rattle.model.specs.declared.Answer.TheVariants.{Clear}
use Rattle.network.specs.Network.{verdict_at}
use Rattle.network.proofs.Held.{lowest_first}
use Rattle.network.proofs.network.held.Outcome.lowest_held.Goals as goal

pub returns : goal.returns
returns c =
    let o = c.args.self.now in
    let f = verdict_at o.wishes o.out o.amounts o.tops in
    c.unwrap_or.ensures
    ∙ lowest_first c.args.count f c.find.result
    (first_from_find _ _ c.find.result (λ a. a ≢ Clear) (λ a. a ≡ Clear) c.find.ensures.ran (YieldsList-from_map _ f (YieldsList-from_range 0 c.args.count c.args.count c.map-verdicts.ensures.source (omega arith)) c.map-verdicts.ensures.closure (λ x r q k. search rules)) (λ x q k. search (rules, tests)) (λ x q k. search (rules, tests)))
