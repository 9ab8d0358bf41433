-- The records of the sections `places` and `entries`.
use Rattle.std.specs.Prelude.{ℕ, ◌*◌, ◌≤◌, List, [], ◌∷◌, Ok, decimal}
use Rattle.refusal.specs.Questions.{then}
use Rattle.words.specs.Numbers.{number_at}
use Rattle.words.specs.Spelling.{Spelled}
use Rattle.records.specs.Sections.{Reader}
use Rattle.linear.specs.declared.place.Place.{Place}

-- a place: a top from 1 to 100,000, and a load up to the top
abbrev pub place_at : List ℕ → Reader Place
place_at bs at before =
    then (number_at bs at 1 100000) (λ top.
    then (number_at bs top.end 0 top.value) (λ load.
    Ok (record { item = record { top = top.value; load = load.value }; end = load.end })))

-- an entry: hundredths, 0 to 10,000
abbrev pub entry_at : List ℕ → Reader ℕ
entry_at bs at before = then (number_at bs at 0 10000) (λ n. Ok (record { item = n.value; end = n.end }))

-- how many entries there are: by mode, line and column
abbrev pub entry_count : ℕ → ℕ → ℕ
entry_count modes places = modes * places * places

-- the words from place `at` of the sheet to `to` are those of the place p
pub record PlaceSaid (bs : List ℕ) (before : List Place) (at : ℕ) (p : Place) (to : ℕ) : Type 0 where
  pub some_top : 1 ≤ p.top
  pub top : p.top ≤ 100000
  pub load : p.load ≤ p.top
  pub words : Spelled bs at (decimal p.top ∷ decimal p.load ∷ []) to

-- the word from place `at` of the sheet to `to` is the entry
pub record EntrySaid (bs before : List ℕ) (at entry to : ℕ) : Type 0 where
  pub small : entry ≤ 10000
  pub words : Spelled bs at (decimal entry ∷ []) to
