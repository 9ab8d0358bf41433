-- The question that each fault of a sheet answers no, and its place.
use Rattle.std.specs.Prelude.{Result}
use Rattle.refusal.specs.declared.Refusal.{Refusal}
use Rattle.refusal.specs.Questions.{refusal, Told, told_by}
use Rattle.words.specs.declared.fault.SheetFault.{SheetFault}
use Rattle.words.specs.declared.fault.SheetFault.TheVariants.{TooLong, BadByte, NoWord, WrongSection, NoNumber, OutOfRange, BadLink, BadTurn, Overfull, RepeatedPlace}

abbrev pub sheet_refusal : SheetFault → Refusal
sheet_refusal TooLong = refusal 1 0 0
sheet_refusal (BadByte p) = refusal 2 p 0
sheet_refusal (NoWord p) = refusal 3 p 0
sheet_refusal (WrongSection p) = refusal 4 p 0
sheet_refusal (NoNumber p) = refusal 5 p 0
sheet_refusal (OutOfRange p) = refusal 6 p 0
sheet_refusal (BadLink p) = refusal 7 p 0
sheet_refusal (BadTurn p) = refusal 8 p 0
sheet_refusal (Overfull p) = refusal 9 p 0
sheet_refusal (RepeatedPlace p) = refusal 10 p 0

-- what a reader of a sheet tells
abbrev pub told : {A : Type 0} → Result A SheetFault → Told A
told r = told_by sheet_refusal r
