-- Showing a row with care: only where no place can be held, whatever the street answers.
use Rattle.std.specs.Prelude.{◌≡◌, ℕ, Bool, true, false, ◌&&◌, List, Some, None, Option}
use Rattle.model.specs.declared.Answer.{Answer}
use Rattle.model.specs.declared.Answer.TheVariants.{Clear, Held}
use Rattle.model.specs.Model.{Meaning, dark_row}
use Rattle.street.specs.declared.Showing.{Showing}
use Rattle.street.specs.Street.{Seen, Showed}

-- every place is clear
abbrev pub is_clear : Answer → Bool
is_clear Clear = true
is_clear (Held p c) = false

-- under the greatest arrivals both the row and the dark row are clear for these queues
abbrev pub both_clear : Meaning → List ℕ → List ℕ → Bool
both_clear m row x = is_clear (m.answer row x m.loads) && is_clear (m.answer (dark_row m) x m.loads)

-- nothing was shown, since one of the two rows is held
pub record Stayed (m : Meaning) (row : List ℕ) (before after : Seen) : Type 0 where
  pub held : both_clear m row before.queues ≡ false
  pub same : after ≡ before

-- the row was shown, since both rows are clear, and no place was held in the step
pub record Went (m : Meaning) (row : List ℕ) (before : Seen) (answer : Showing) (after : Seen) : Type 0 where
  pub clear : both_clear m row before.queues ≡ true
  pub showed : Showed m row before answer after
  pub free : m.answer after.lamps before.queues after.arrivals ≡ Clear

-- what a careful showing answers
abbrev pub Careful : Meaning → List ℕ → Seen → Option Showing → Seen → Type 0
Careful m row before None after = Stayed m row before after
Careful m row before (Some answer) after = Went m row before answer after

-- where nothing was shown, the street is the same
abbrev pub Untouched : {S : Type 0} → S → Option Showing → S → Type 0
Untouched before None after = after ≡ before
Untouched before (Some answer) after = Unit {0}
