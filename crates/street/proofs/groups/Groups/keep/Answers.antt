use Rattle.std.proofs.Common.{take, ap, ◌∙◌}
use Rattle.street.proofs.Kept.{take_kept}
use Rattle.street.proofs.groups.Groups.keep.Goals as goal

pub returns : goal.returns
returns c = c.table_of-table.ensures ∙ (ap (λ k. take k c.args.given.now) c.min-kept.ensures ∙ take_kept c.args.given.now 64)
