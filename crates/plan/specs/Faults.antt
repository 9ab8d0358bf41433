-- The number and the two places of each refusal of the check.
use Rattle.refusal.specs.declared.Refusal.{Refusal}
use Rattle.refusal.specs.Questions.{refusal}
use Rattle.plan.specs.declared.fault.CheckFault.{CheckFault}
use Rattle.plan.specs.declared.fault.CheckFault.TheVariants.{LimitBroken, Blocked, Overflow, EndAbove}

abbrev pub check_refusal : CheckFault → Refusal
check_refusal (LimitBroken row limit) = refusal 13 row limit
check_refusal (Blocked row place) = refusal 14 row place
check_refusal (Overflow row place) = refusal 15 row place
check_refusal (EndAbove rows place) = refusal 16 rows place
