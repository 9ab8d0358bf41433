-- The first of some groups.
use Rattle.std.proofs.Common.{◌≡◌, ℕ, min, List, length, take, ap, ◌∙◌, arith}
use Rattle.std.proofs.lemmas.List.{take_min}

pub take_kept : {X : Type 0} (xs : List X) (n : ℕ) → take (min (length xs) n) xs ≡ take n xs
take_kept xs n = let s : min (length xs) n ≡ min n (length xs) = omega arith in ap (λ i. take i xs) s ∙ take_min n xs
