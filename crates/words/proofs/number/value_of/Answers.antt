use Rattle.std.proofs.Common.{arith, rules}
use Rattle.std.proofs.lemmas.List.{take_all}
use Rattle.words.proofs.Values.{value_step}
use Rattle.words.proofs.number.value_of.Goals as goal

pub overflow_mul-n : goal.overflow_mul-n
overflow_mul-n c = let s = value_step c.args.text.now c.loop-b.b-index c.loop-b.n c.requires (omega arith) c.loop-b.invariant in omega arith

pub overflow_sub-b : goal.overflow_sub-b
overflow_sub-b c = (value_step c.args.text.now c.loop-b.b-index c.loop-b.n c.requires (omega arith) c.loop-b.invariant).low

pub overflow_add-n : goal.overflow_add-n
overflow_add-n c = let s = value_step c.args.text.now c.loop-b.b-index c.loop-b.n c.requires (omega arith) c.loop-b.invariant in search rules

pub loop-b-preserved : goal.loop-b-preserved
loop-b-preserved c = let s = value_step c.args.text.now c.loop-b.b-index c.loop-b.n c.requires (omega arith) c.loop-b.invariant in search rules

pub returns : goal.returns
returns c = search (rules, take_all)
