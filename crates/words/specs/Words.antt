-- The words of a sheet. A word is a run of bytes that are not separators, and each of its bytes has to be printable.
use Rattle.std.specs.Prelude.{◌≡◌, ℕ, ◌+◌, ◌≤◌, Bool, true, cond, not, ◌&&◌, ◌||◌, List, [], ◌∷◌, length, drop, Ok, Err, Result, ◌==◌, nat_le, nat_lt, slice_index, slice_range}
use Rattle.std.specs.List.{list_all}
use Rattle.refusal.specs.Questions.{Told, no, then}
use Rattle.words.specs.declared.fault.SheetFault.{SheetFault}
use Rattle.words.specs.declared.word.Word.{Word}
use Rattle.words.specs.declared.word.Word.TheVariants.{Number, Name}
use Rattle.words.specs.Faults.{sheet_refusal}

-- question 1: at most 65,535 bytes
abbrev pub short_sheet : List ℕ → Told (Unit {0})
short_sheet bs = cond (nat_lt 65535 (length bs)) (no 1 0) (Ok tt)

abbrev pub separator : ℕ → Bool
separator b = b == 32 || b == 10

abbrev pub printable : ℕ → Bool
printable b = nat_le 32 b && nat_le b 126

-- the place of the first byte that is no separator, where the bytes begin at place p
abbrev pub skipped : List ℕ → ℕ → ℕ
skipped [] p = p
skipped (b ∷ bs) p = cond (separator b) (skipped bs (p + 1)) p

-- where the run of bytes that are no separators ends; question 2: is each of them printable?
abbrev pub ended : List ℕ → ℕ → Told ℕ
ended [] p = Ok p
ended (b ∷ bs) p = cond (separator b) (Ok p) (cond (printable b) (ended bs (p + 1)) (no 2 p))

-- a decimal digit
abbrev pub digit : ℕ → Bool
digit b = nat_le 48 b && nat_le b 57

abbrev pub digits : List ℕ → Bool
digits bs = list_all digit bs

-- 1 to 9 digits with no needless zero in front
abbrev pub numeral : List ℕ → Bool
numeral bs = digits bs && (nat_le 1 (length bs) && (nat_le (length bs) 9 && (nat_le (length bs) 1 || not (slice_index bs 0 == 48))))

-- a word, by the place of its first byte and its bytes
pub data Part : Type 0 where
  number : ℕ → List ℕ → Part
  name : ℕ → List ℕ → Part

abbrev pub part : ℕ → List ℕ → Part
part p text = cond (numeral text) (number p text) (name p text)

-- the word that begins at p and ends at e; question 3: is there one?
abbrev pub cut : List ℕ → ℕ → ℕ → Told Part
cut bs p e = cond (e == p) (no 3 (length bs)) (Ok (part p (slice_range bs p e)))

abbrev pub word_from : List ℕ → ℕ → Told Part
word_from bs p = then (ended (drop p bs) p) (cut bs p)

-- the next word from place `at` on
abbrev pub word_at : List ℕ → ℕ → Told Part
word_at bs at = word_from bs (skipped (drop at bs) at)

-- a word that borrows its bytes, by what they are
abbrev pub seen : Word → Part
seen (Number t p) = number p t.now
seen (Name t p) = name p t.now

abbrev pub shown : Result Word SheetFault → Told Part
shown (Ok w) = Ok (seen w)
shown (Err e) = Err (sheet_refusal e)

-- a word ends within the sheet, and a number is a numeral
abbrev pub Sound : List ℕ → Result Word SheetFault → Type 0
Sound bs (Ok (Number t p)) = (p + length t.now ≤ length bs) × (numeral t.now ≡ true)
Sound bs (Ok (Name t p)) = p + length t.now ≤ length bs
Sound bs (Err e) = Unit {0}
