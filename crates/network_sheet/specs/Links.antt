-- The records of the sections `signals` and `links`.
use Rattle.std.specs.Prelude.{◌≡◌, ℕ, ◌-◌, ◌^◌, ◌<◌, ◌≤◌, cond, List, [], ◌∷◌, length, Ok, decimal, ◌==◌, nat_lt, slice_index}
use Rattle.refusal.specs.Questions.{Told, no, then}
use Rattle.words.specs.Numbers.{number_at, name_at}
use Rattle.words.specs.Spelling.{Spelled}
use Rattle.words.specs.Tables.{tabled}
use Rattle.words.specs.declared.recorded.Recorded.{Recorded}
use Rattle.records.specs.Sections.{Reader}
use Rattle.network.specs.declared.links.Link.{Link}

-- a junction: its phases, 1 to 8
abbrev pub signal_at : List ℕ → Reader ℕ
signal_at bs at before = then (number_at bs at 1 8) (λ n. Ok (record { item = n.value; end = n.end }))

-- the phases of a junction, counted from 1
abbrev pub phases_of : List ℕ → ℕ → ℕ
phases_of phases j = slice_index phases (j - 1)

-- question 7, after the record, which begins at p: do tail and head differ, and has the mask only phases of the head?
abbrev pub fits_ends : List ℕ → ℕ → Recorded Link → Told (Recorded Link)
fits_ends phases p r =
    cond (r.item.tail == r.item.head) (no 7 p)
    (cond (nat_lt r.item.mask (2 ^ phases_of phases r.item.head)) (Ok r) (no 7 p))

-- the words of a link in order, and then how they fit together
abbrev pub link_at : List ℕ → List ℕ → ℕ → Reader Link
link_at bs phases signals at before =
    then (name_at bs at) (λ n.
    then (number_at bs n.end 0 signals) (λ tail.
    then (number_at bs tail.end 1 signals) (λ head.
    then (number_at bs head.end 1 100000) (λ top.
    then (number_at bs top.end 0 100000) (λ flow.
    then (number_at bs flow.end 0 top.value) (λ load.
    then (number_at bs load.end 0 255) (λ mask.
    fits_ends phases n.place (record { item = record { name = n.value; tail = tail.value; head = head.value; top = top.value; flow = flow.value; load = load.value; mask = mask.value }; end = mask.end }))))))))

-- the word from place `at` to `to` is the number of a junction's phases
pub record SignalSaid (bs : List ℕ) (before : List ℕ) (at : ℕ) (phases : ℕ) (to : ℕ) : Type 0 where
  pub some : 1 ≤ phases
  pub few : phases ≤ 8
  pub words : Spelled bs at (decimal phases ∷ []) to

-- the words of a link
abbrev pub link_text : List ℕ → Link → List (List ℕ)
link_text name l = name ∷ decimal l.tail ∷ decimal l.head ∷ decimal l.top ∷ decimal l.flow ∷ decimal l.load ∷ decimal l.mask ∷ []

-- each number in its range; tail and head differ, and the mask has only phases of the head
pub record LinkOf (phases : List ℕ) (signals : ℕ) (l : Link) : Type 0 where
  pub tail : l.tail ≤ signals
  pub some_head : 1 ≤ l.head
  pub head : l.head ≤ signals
  pub some_top : 1 ≤ l.top
  pub top : l.top ≤ 100000
  pub flow : l.flow ≤ 100000
  pub load : l.load ≤ l.top
  pub mask : l.mask ≤ 255
  pub differ : l.tail ≡ l.head → ⊥
  pub own_phases : l.mask < 2 ^ phases_of phases l.head

-- the words from place `at` to `to` are those of the link l. Names need not differ: links of equal words are still two links
pub record LinkSaid (bs phases : List ℕ) (signals : ℕ) (before : List Link) (at : ℕ) (l : Link) (to : ℕ) : Type 0 where
  pub name : List ℕ
  pub short : length name ≤ 8
  pub letters : l.name ≡ tabled 8 name
  pub good : LinkOf phases signals l
  pub words : Spelled bs at (link_text name l) to
