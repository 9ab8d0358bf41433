-- The number and the two places of each refusal of an area.
use Rattle.refusal.specs.declared.Refusal.{Refusal}
use Rattle.refusal.specs.Questions.{refusal}
use Rattle.plan_sheet.specs.Faults.{plan_refusal}
use Rattle.lives.specs.declared.fault.AreaFault.{AreaFault}
use Rattle.lives.specs.declared.fault.AreaFault.TheVariants.{NoShelf, NotEmpty, Plan, OnLine, NoPlan, QueueAbove, NoDuty, NotCovered, EnvelopeAbove}

abbrev pub area_refusal : AreaFault → Refusal
area_refusal NoShelf = refusal 11 0 0
area_refusal (NotEmpty number) = refusal 12 number 0
area_refusal (Plan f) = plan_refusal f
area_refusal OnLine = refusal 17 0 0
area_refusal NoPlan = refusal 18 0 0
area_refusal (QueueAbove place) = refusal 19 place 0
area_refusal NoDuty = refusal 20 0 0
area_refusal NotCovered = refusal 21 0 0
area_refusal (EnvelopeAbove place) = refusal 22 place 0
