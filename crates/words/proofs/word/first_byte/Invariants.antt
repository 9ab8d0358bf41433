use Rattle.std.proofs.Common.{◌≡◌, ◌-◌, length, drop}
use Rattle.words.specs.Words.{skipped}
use Rattle.words.proofs.word.first_byte.Given as goal

abbrev pub invariant-loop-place : goal.invariant-loop-place
invariant-loop-place l = skipped (drop l.place l.bytes) l.place ≡ skipped (drop l.at l.bytes) l.at

abbrev pub decreases-loop-place : goal.decreases-loop-place
decreases-loop-place l = length l.bytes - l.place
