use Rattle.std.proofs.Common.{rules}
use Rattle.records.specs.Sections.{ToldAs}
use Rattle.network_sheet.specs.Network.{network_sheet, content}
use Rattle.network_sheet.proofs.Whole.{read_exactly}
use Rattle.network_sheet.proofs.read.read_network.Goals as goal

pub returns : goal.returns
returns c =
    let bs = c.args.bytes.now in
    let is : ToldAs content c.read_sections.result (network_sheet bs) = search rules in
    record { is = is; exact = read_exactly bs c.read_sections.result is }
