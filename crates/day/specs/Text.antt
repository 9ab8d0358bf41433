-- The line of a call.
use Rattle.std.specs.Prelude.{ℕ, zero, suc, ◌+◌, List, [], ◌∷◌, ◌++◌, codes, decimal}
use Rattle.refusal.specs.declared.Refusal.{Refusal}
use Rattle.refusal.specs.Text.{refusal_text}
use Rattle.model.specs.State.{told}
use Rattle.lives.specs.declared.state.State.{State}
use Rattle.lives.specs.Text.{state_text}
use Rattle.lives.specs.Area.{Book}
use Rattle.day.specs.declared.call.DayCall.{DayCall}
use Rattle.day.specs.declared.call.DayCall.TheVariants.{Shelve, Take, Advance, Change, Give}
use Rattle.day.specs.declared.run.Done.{Done}
use Rattle.day.specs.declared.run.Done.TheVariants.{Shelved, Duty, Shown, Dark, Changed, Given, Refused, NoDuty}

abbrev pub call_text : DayCall → List ℕ
call_text (Shelve n place) = codes "shelve"
call_text (Take n) = codes "take"
call_text Advance = codes "advance"
call_text (Change n) = codes "change"
call_text Give = codes "give"

abbrev pub done_text : Done → List ℕ
done_text (Shelved n) = codes "shelved " ++ decimal n
done_text (Duty d) = codes "duty " ++ decimal d
done_text Shown = codes "shown"
done_text Dark = codes "dark"
done_text Changed = codes "changed"
done_text Given = codes "given"
done_text (Refused r) = codes "refused " ++ refusal_text r
done_text NoDuty = codes "no duty"

-- the line up to the numbers of the envelope
abbrev pub head_text : DayCall → Done → State → ℕ → List ℕ
head_text call r state row =
    call_text call ++ (codes " " ++ (done_text r ++ (codes " " ++ (state_text state ++ (codes " row " ++ (decimal row ++ codes " envelope"))))))

-- the numbers of n places, the first of them place k + 1
abbrev pub numbers_from : List ℕ → ℕ → ℕ → List ℕ
numbers_from xs zero k = []
numbers_from xs (suc n) k = (codes " " ++ decimal (told xs (k + 1))) ++ numbers_from xs n (k + 1)

-- the whole line
abbrev pub line_text : DayCall → Done → Book → ℕ → List ℕ
line_text call r b places = head_text call r b.state b.row ++ (numbers_from b.envelope places 0 ++ (10 ∷ []))

-- the line of a refused sheet
abbrev pub refused_line : Refusal → List ℕ
refused_line r = codes "refused " ++ (refusal_text r ++ (10 ∷ []))
