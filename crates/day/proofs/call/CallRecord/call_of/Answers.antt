use Rattle.std.proofs.Common.{◌≡◌, ℕ, List, [], ◌∷◌, length, get_or, codes, refl, arith, rules}
use Rattle.std.proofs.lemmas.Grind.{elements}
use Rattle.day.proofs.call.CallRecord.call_of.Goals as goal

-- a word of six letters
six : (xs : List ℕ) (a b c d e f : ℕ) → length xs ≡ 6 → get_or xs 0 0 ≡ a → get_or xs 1 0 ≡ b → get_or xs 2 0 ≡ c → get_or xs 3 0 ≡ d → get_or xs 4 0 ≡ e → get_or xs 5 0 ≡ f → xs ≡ a ∷ b ∷ c ∷ d ∷ e ∷ f ∷ []
six xs a b c d e f l p q r s t u = grind (arith, elements)

pub returns-in-shelve : goal.returns-in-shelve
returns-in-shelve g c = let e : c.args.word.now ≡ codes "shelve" = six _ _ _ _ _ _ _ (omega arith) (search rules) (search rules) (search rules) (search rules) (search rules) (search rules) in rw e c.shelve_at.ensures

pub returns-in_ok-shelf-in-take : goal.returns-in_ok-shelf-in-take
returns-in_ok-shelf-in-take g c = let e : c.args.word.now ≡ codes "take" = grind (arith, elements) in rw e (search rules)

pub returns-in-advance : goal.returns-in-advance
returns-in-advance g c = let e : c.args.word.now ≡ codes "advance" = grind (arith, elements) in rw e refl

pub returns-in_err-shelf-in-change : goal.returns-in_err-shelf-in-change
returns-in_err-shelf-in-change g c = let e : c.args.word.now ≡ codes "change" = grind (arith, elements) in rw e (search rules)

pub returns-in_ok-shelf-in-change : goal.returns-in_ok-shelf-in-change
returns-in_ok-shelf-in-change g c = let e : c.args.word.now ≡ codes "change" = grind (arith, elements) in rw e (search rules)
