use Rattle.std.proofs.Common.{rules}
use Rattle.records.specs.Sections.{ToldAs}
use Rattle.linear_sheet.specs.Linear.{linear_sheet, content}
use Rattle.linear_sheet.proofs.Whole.{read_exactly}
use Rattle.linear_sheet.proofs.read.read_linear.Goals as goal

pub returns : goal.returns
returns c =
    let bs = c.args.bytes.now in
    let is : ToldAs content c.read_sections.result (linear_sheet bs) = search rules in
    record { is = is; exact = read_exactly bs c.read_sections.result is }
