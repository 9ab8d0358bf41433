use Rattle.std.proofs.Common.{rules}
use Rattle.words.proofs.Steps.{ended_more, ended_bad, ended_stops, ended_all}
use Rattle.words.proofs.word.word_end.Goals as goal

pub returns-then-not-prints : goal.returns-then-not-prints
returns-then-not-prints c = search (rules, ended_bad)

pub loop-end-preserved : goal.loop-end-preserved
loop-end-preserved c = search (rules, ended_more)

pub returns-else-not-separates : goal.returns-else-not-separates
returns-else-not-separates c = search (rules, ended_stops)

pub returns-after-loop-end : goal.returns-after-loop-end
returns-after-loop-end c = search (rules, ended_all)
