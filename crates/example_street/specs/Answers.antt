-- What a controller answers, and the mark of the step.
use Rattle.std.specs.Prelude.{Bool, true, false}
use Rattle.street.specs.declared.Showing.{Showing}
use Rattle.street.specs.declared.Showing.TheVariants.{Shown, Dark}

-- a controller that is dark marks the step, and no other does
abbrev pub answer_by : Bool → Showing
answer_by false = Shown
answer_by true = Dark
