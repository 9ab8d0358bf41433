use Rattle.std.proofs.Common.{◌≡◌, ap, ◌∙◌, rules, tests}
use Rattle.std.specs.List.{find}
use Rattle.std.specs.Option.{option_map}
use Rattle.std.proofs.lemmas.Iterator.{YieldsList-from_slice}
use Rattle.std.proofs.lemmas.Iterator.Search.{find_from_yields_List}
use Rattle.network.specs.Network.{joins}
use Rattle.network.proofs.Sharing.{share_found, share_told}
use Rattle.network.proofs.network.Network.share.Goals as goal

pub returns : goal.returns
returns c =
    let ts = c.args.self.now.turns.items in
    let f : option_map (λ x. x.now) c.find.result ≡ find (λ t. joins t c.args.from c.args.to) ts = find_from_yields_List (λ t. joins t c.args.from c.args.to) _ _ c.find.result c.find.ensures.ran (YieldsList-from_slice ts cc) (λ x b q k. search (rules, tests)) in
    let m : c.map.result ≡ option_map (λ t. t.share) (option_map (λ x. x.now) c.find.result) = search rules in
    let e = m ∙ (ap (option_map (λ t. t.share)) f ∙ share_found c.args.from c.args.to ts) in
    record { value = e; joined = share_told c.args.from c.args.to ts _ e }
