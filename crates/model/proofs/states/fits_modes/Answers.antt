use Rattle.std.proofs.Common.{ℕ, leb, get_or, true, false, rules, tests, ◌≡◌}
use Rattle.std.proofs.lemmas.Iterator.{cases_from_all, YieldsList-from_slice}
use Rattle.std.proofs.lemmas.Iterator.Consumers.{YieldsList-from_enumerate}
use Rattle.model.proofs.Chains.{every_all}
use Rattle.model.proofs.states.fits_modes.Goals as goal

pub returns : goal.returns
returns c =
    let h = λ (j : ℕ) (m : ℕ). leb m (get_or c.args.modes.now j 0) in
    every_all h c.args.row.now 32 c.told-row c.all.result
    (cases_from_all _ _ _ (λ p. h p.0 p.1 ≡ true) (λ p. h p.0 p.1 ≡ false) c.all.ensures.ran (YieldsList-from_enumerate (YieldsList-from_slice c.args.row.now cc) cc) (λ x q k. search (rules, tests)) (λ x q k. search (rules, tests)))
