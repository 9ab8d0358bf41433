use Rattle.std.proofs.Common.{◌≡◌, ltb, true, false, rules, tests, ◌∙◌}
use Rattle.std.proofs.lemmas.Iterator.{IsFirst-from_position, YieldsList-from_slice}
use Rattle.plan.specs.Limits.{total}
use Rattle.plan.proofs.Keeping.{first_found}
use Rattle.plan.proofs.limits.first_broken.Goals as goal

pub returns : goal.returns
returns c =
    let x = c.args.state.now in
    search rules
    ∙ first_found c.args.limits.now x c.position-broken.result
    (IsFirst-from_position c.position-broken.new.self _ c.position-broken.result (λ l. ltb l.bound (total x l.terms) ≡ true) (λ l. ltb l.bound (total x l.terms) ≡ false) c.position-broken.ensures.ran (YieldsList-from_slice c.args.limits.now cc) (λ l q k. search (rules, tests)) (λ l q k. search (rules, tests)))
