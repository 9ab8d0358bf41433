use Rattle.std.proofs.Common.{rules, arith}
use Rattle.network.proofs.Masks.{bit_shown}
use Rattle.network.proofs.links.has_bit.Goals as goal

pub returns : goal.returns
returns c = bit_shown c.args.mask c.args.bit c.is_some_and.result (omega arith) c.checked_shr.result c.checked_shr.ensures (search rules)
