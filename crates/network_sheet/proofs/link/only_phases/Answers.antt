use Rattle.std.proofs.Common.{arith}
use Rattle.network_sheet.proofs.Masks.{left_out}
use Rattle.network_sheet.proofs.link.only_phases.Goals as goal

pub returns : goal.returns
returns c = rw (c.unwrap_or.ensures, ← c.from.ensures) (left_out c.args.mask c.from.result (omega arith) c.checked_shr.result c.checked_shr.ensures)
