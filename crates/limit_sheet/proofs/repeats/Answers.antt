use Rattle.std.proofs.Common.{◌∙◌, refl, rules}
use Rattle.std.proofs.lemmas.Iterator.{YieldsList-from_slice}
use Rattle.std.proofs.lemmas.Iterator.Consumers.{YieldsList-from_enumerate}
use Rattle.std.proofs.lemmas.Iterator.Search.{any_from_yields_List}
use Rattle.limit_sheet.proofs.Steps.{named_later, later_from, rest}
use Rattle.limit_sheet.proofs.repeats.Goals as goal

pub returns : goal.returns
returns c =
    let ts = c.args.terms.now in
    any_from_yields_List (named_later ts) _ _ c.any.result c.any.ensures.ran (YieldsList-from_enumerate (YieldsList-from_slice ts (cc)) (cc)) (λ x b q k. search (rules, rest))
    ∙ later_from ts ts 0 refl
