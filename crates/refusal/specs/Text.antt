-- A refusal as it is written.
use Rattle.std.specs.Prelude.{ℕ, List, ◌++◌, codes, decimal}
use Rattle.refusal.specs.declared.Refusal.{Refusal}

-- the number of the question and its two places
abbrev pub refusal_text : Refusal → List ℕ
refusal_text r = decimal r.number ++ (codes " " ++ (decimal r.a ++ (codes " " ++ decimal r.b)))
