use Rattle.std.proofs.Common.{rules}
use Rattle.words.proofs.Steps.{skipped_more, skipped_stops, skipped_all}
use Rattle.words.proofs.word.first_byte.Goals as goal

pub loop-place-preserved : goal.loop-place-preserved
loop-place-preserved c = search (rules, skipped_more)

pub returns-else-separates : goal.returns-else-separates
returns-else-separates c = search (rules, skipped_stops)

pub returns-after-loop-place : goal.returns-after-loop-place
returns-after-loop-place c = search (rules, skipped_all)
