-- The words of a sheet as plain text: what stands where, with no word of how it is read.
use Rattle.std.specs.Prelude.{◌≡◌, ℕ, ◌+◌, ◌<◌, true, false, List, [], ◌∷◌, ◌++◌, length, drop}
use Rattle.std.specs.List.{AllByRecursion}
use Rattle.words.specs.Words.{separator, printable}

abbrev pub Separates : ℕ → Type 0
Separates b = separator b ≡ true

-- a byte that may stand in a word
abbrev pub Inner : ℕ → Type 0
Inner b = (separator b ≡ false) × (printable b ≡ true)

-- what follows a word: nothing, or a separator first
abbrev pub Closed : List ℕ → Type 0
Closed [] = Unit {0}
Closed (b ∷ bs) = Separates b

-- the first word from place `at` on is `text`, and it ends at `to`
pub record Next (bs : List ℕ) (at : ℕ) (text : List ℕ) (to : ℕ) : Type 0 where
  pub gap : List ℕ
  pub after : List ℕ
  pub splits : drop at bs ≡ gap ++ (text ++ after)
  pub apart : AllByRecursion Separates gap
  pub inner : AllByRecursion Inner text
  pub some : 0 < length text
  pub closed : Closed after
  pub ends : to ≡ at + length gap + length text

-- the first words from place `at` on are these, and the last of them ends at `to`
abbrev pub Spelled : List ℕ → ℕ → List (List ℕ) → ℕ → Type 0
Spelled bs at [] to = at ≡ to
Spelled bs at (w ∷ ws) to = (e : ℕ) × Next bs at w e × Spelled bs e ws to
