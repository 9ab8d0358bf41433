use Rattle.std.proofs.Common.{refl, arith}
use Rattle.std.proofs.lemmas.Nat.{mul-le}
use Rattle.linear.proofs.linear.step.weighed.Goals as goal

pub overflow_mul-result : goal.overflow_mul-result
overflow_mul-result c = omega (arith, mul-le c.args.entry c.args.value 10000 100000 c.requires.0 c.requires.1)

pub returns : goal.returns
returns c = record { value = refl; small = mul-le c.args.entry c.args.value 10000 100000 c.requires.0 c.requires.1 }
