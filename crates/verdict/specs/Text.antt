-- The line of a verdict.
use Rattle.std.specs.Prelude.{ℕ, List, ◌++◌, codes, decimal}
use Rattle.refusal.specs.Text.{refusal_text}
use Rattle.verdict.specs.declared.verdict.Verdict.{Verdict}
use Rattle.verdict.specs.declared.verdict.Verdict.TheVariants.{Shelved, Refused}

-- `shelved` and the count of rows, or `refused`, the number of the question and its two places
abbrev pub verdict_text : Verdict → List ℕ
verdict_text (Shelved rows) = codes "shelved " ++ decimal rows
verdict_text (Refused r) = codes "refused " ++ refusal_text r
