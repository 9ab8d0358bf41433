use Rattle.std.proofs.Common.{rules, ◌≡◌, ℕ, List, [], ◌++◌, take, Some, None, Option, ◌∙◌}
use Rattle.std.specs.Prelude.{IfSome}
use Rattle.std.specs.Option.{option_map}
use Rattle.input.proofs.read_input.Goals as goal

-- what was added to nothing, where no more than n bytes were taken
kept : (o : Option (List ℕ)) (l n : ℕ) (none all : List ℕ) → l ≡ n → none ≡ [] → IfSome (option_map (take l) o) (λ xs. all ≡ none ++ xs) → IfSome o (λ xs. all ≡ take n xs)
kept None l n none all a b h = h
kept (Some xs) l n none all a b h = h ∙ (λ i. b i ++ take (a i) xs)

pub returns-clause-kept : goal.returns-clause-kept
returns-clause-kept g c = kept _ c.take.result.limit 65536 c.new-bytes.result.items _ c.take.ensures.limit c.new-bytes.ensures.items (search rules)
