use Rattle.std.proofs.Common.{rules}
use Rattle.words.proofs.Written.{written_front}
use Rattle.words.proofs.name.letters_of.Goals as goal

pub returns : goal.returns
returns c = search (rules, written_front)
