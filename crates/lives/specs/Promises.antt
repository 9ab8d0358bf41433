-- What is promised of every life of an area, over any street and so over any model.
use Rattle.std.specs.Prelude.{◌≡◌, ℕ, ◌%◌, ◌≤◌, true, false, ◌↔◌, List, [], ◌∷◌, length, Some, None, Ok, Err, Option, ◌≢◌, slice_index_or}
use Rattle.refusal.specs.declared.Refusal.{Refusal}
use Rattle.model.specs.declared.Answer.TheVariants.{Clear}
use Rattle.model.specs.Model.{Meaning, Lawful, dark_row}
use Rattle.model.specs.State.{Below, Within}
use Rattle.street.specs.declared.Showing.{Showing}
use Rattle.street.specs.declared.Showing.TheVariants.{Shown, Dark}
use Rattle.street.specs.Street.{Seen}
use Rattle.plan.specs.declared.limits.Limit.{Limit}
use Rattle.plan.specs.Limits.{Keeps}
use Rattle.plan.specs.Check.{Timing, checked}
use Rattle.plan.specs.Runs.{EveryRunHolds}
use Rattle.plan_sheet.specs.Plans.{PlanSaid}
use Rattle.plan_sheet.specs.Says.{Says}
use Rattle.plan_sheet.specs.Accepts.{rows_said}
use Rattle.network.specs.Network.{Roads, network}
use Rattle.lives.specs.declared.state.Loss.{Loss}
use Rattle.lives.specs.declared.state.State.TheVariants.{OffLine, Covered, Lost}
use Rattle.lives.specs.Area.{Area, slot, rows_on, current_row}
use Rattle.lives.specs.Calls.{Call, shelve, take, advance, Tale, rows, duty, street, Outcome, Calls, step_in, is_on}
use Rattle.lives.specs.Lives.{Event, event, Life, AllShown, shown_since, Abreast}

-- While an area is covered its street is nowhere above the envelope and keeps every limit.
pub record StreetCovered (ls : List Limit) (a : Area) : Type 0 where
  pub below : Below a.street.queues a.book.envelope
  pub keeps : Keeps ls a.street.queues

pub record Cover (m : Meaning) (ls : List Limit) : Type 0 where
  pub covers : (a : Area) (es : List Event) → Life m ls a es → a.book.state ≡ Covered → StreetCovered ls a
  -- no step that left the area covered was held
  pub not_held :
      (a b : Area) (es : List Event) (d : ℕ) (t : Tale) → Life m ls a es
      → Calls m ls a (advance d) (Ok t) b → b.book.state ≡ Covered
      → m.answer b.street.lamps a.street.queues b.street.arrivals ≡ Clear
  -- cover is never lost while every step of the spell was shown
  pub not_lost : (a : Area) (es : List Event) → Life m ls a es → AllShown es → (loss : Loss) → a.book.state ≢ Lost loss

-- A covered area stays covered through a step exactly if the lamps' row is clear for envelope and loads and the next state
-- keeps every limit; that state is the new envelope. Without cover the envelope is the tops.
pub record Stays (m : Meaning) (ls : List Limit) (a b : Area) : Type 0 where
  pub exactly :
      (b.book.state ≡ Covered)
      ↔ ((m.answer b.street.lamps a.book.envelope m.loads ≡ Clear) × Keeps ls (m.next b.street.lamps a.book.envelope m.loads))
  pub envelope : b.book.state ≡ Covered → b.book.envelope ≡ m.next b.street.lamps a.book.envelope m.loads

pub record CoverRule (m : Meaning) (ls : List Limit) : Type 0 where
  pub stays :
      (a b : Area) (es : List Event) (d : ℕ) (t : Tale) → Life m ls a es → a.book.state ≡ Covered
      → Calls m ls a (advance d) (Ok t) b → Stays m ls a b
  pub tops : (a : Area) (es : List Event) → Life m ls a es → (a.book.state ≢ Covered) → a.book.envelope ≡ m.tops

-- The current row is the count of rows shown since the plan was put on line, round and round the plan's rows;
-- a step that is shown shows that row. Off line the row is 0.
pub record Rounds (m : Meaning) (ls : List Limit) : Type 0 where
  pub row :
      (a : Area) (es : List Event) → Life m ls a es → is_on a.book.state ≡ true
      → a.book.row ≡ shown_since es % length (rows_on a.book)
  pub shows :
      (a b : Area) (es : List Event) (d : ℕ) → Life m ls a es → Calls m ls a (advance d) (Ok (street Shown)) b
      → b.street.lamps ≡ slice_index_or (rows_on a.book) (shown_since es % length (rows_on a.book)) (dark_row m)
  pub off : (a : Area) (es : List Event) → Life m ls a es → a.book.state ≡ OffLine → a.book.row ≡ 0

-- A sheet that says a plan is shelved under an empty number exactly when every one-round run of the plan holds.
abbrev pub Shelving : Meaning → List Limit → Type 0
Shelving m ls =
    (a b : Area) (es : List Event) (n : ℕ) (sheet : List ℕ) (p : PlanSaid) (o : Outcome) → Life m ls a es
    → 1 ≤ n → n ≤ 8 → slot a.book.shelf n ≡ None → Says m sheet p
    → Calls m ls a (shelve n sheet) o b
    → (o ≡ Ok (rows p.count)) ↔ EveryRunHolds m ls p.start (rows_said p)

-- Every plan on a shelf is one that the check accepts, and so every one-round run of it holds.
abbrev pub ShelfChecked : Meaning → List Limit → Type 0
ShelfChecked m ls =
    (a : Area) (es : List Event) → Life m ls a es
    → (n : ℕ) (p : Timing) → slot a.book.shelf n ≡ Some p
    → (checked m ls p.start p.rows ≡ Ok (length p.rows)) × EveryRunHolds m ls p.start p.rows

-- Two lives alike in their calls and answers tell the same state, row and envelope, and have the same shelf.
abbrev pub TellingFollows : Meaning → List Limit → Type 0
TellingFollows m ls = (a b : Area) (es : List Event) → Life m ls a es → Life m ls b es → a.book ≡ b.book

-- A refused call changes nothing.
abbrev pub RefusalChangesNothing : Meaning → List Limit → Type 0
RefusalChangesNothing m ls = (a b : Area) (c : Call) (r : Refusal) → Calls m ls a c (Err r) b → b ≡ a

-- the street did as it chose, if the call was a step: its answer and its arrivals
abbrev pub AsChosen : Option Showing → Showing → List ℕ → Seen → Type 0
AsChosen None s v after = Unit {0}
AsChosen (Some t) s v after = (t ≡ s) × (after.arrivals ≡ v)

-- Every call is answered, whatever the street answers and receives within its rules.
abbrev pub EveryCallAnswers : Meaning → List Limit → Type 0
EveryCallAnswers m ls =
    (a : Area) (es : List Event) → Life m ls a es
    → (c : Call) (s : Showing) (v : List ℕ) → Within v m.loads → (m.legal (current_row m a.book) ≡ false → s ≡ Dark)
    → (o : Outcome) × (b : Area) × Calls m ls a c o b × AsChosen (step_in c o) s v b.street

-- And nothing else is open: the street's answer and arrivals fix the outcome and the area after it.
abbrev pub OnlyTheStreetIsFree : Meaning → List Limit → Type 0
OnlyTheStreetIsFree m ls =
    (a b d : Area) (c : Call) (o q : Outcome) → Calls m ls a c o b → Calls m ls a c q d
    → step_in c o ≡ step_in c q → b.street.arrivals ≡ d.street.arrivals → (o ≡ q) × (b ≡ d)

-- Of two spells alike in the shelf at the take and in calls and answers, duty numbers aside: the street that is nowhere above
-- the other at the take and at no step receives more is nowhere above it after each call that leaves both areas covered.
abbrev pub SpellsCompare : Meaning → List Limit → Type 0
SpellsCompare m ls =
    (a u : Area) (es fs : List Event) → Life m ls a es → Life m ls u fs
    → a.book.shelf ≡ u.book.shelf → Below a.street.queues u.street.queues
    → (n d e : ℕ) (b v : Area)
    → Calls m ls a (take n) (Ok (duty d)) b → Calls m ls u (take n) (Ok (duty e)) v
    → (c w : Area) → Abreast m ls b v c w
    → c.book.state ≡ Covered → w.book.state ≡ Covered
    → Below c.street.queues w.street.queues

-- There is a life over a network in which a plan was shelved and taken and a row shown, and the area is covered.
pub record CoveredLife : Type 0 where
  pub roads : Roads
  pub lawful : Lawful (network roads)
  pub limits : List Limit
  pub number : ℕ
  pub sheet : List ℕ
  pub count : ℕ
  pub area : Area
  pub life :
      Life (network roads) limits area
      (event (advance number) (Ok (street Shown)) ∷ event (take 1) (Ok (duty number)) ∷ event (shelve 1 sheet) (Ok (rows count)) ∷ [])
  pub is_covered : area.book.state ≡ Covered

-- The promises over every life.
pub record Promises (m : Meaning) (ls : List Limit) : Type 0 where
  pub cover : Cover m ls
  pub cover_rule : CoverRule m ls
  pub rounds : Rounds m ls
  pub shelving : Shelving m ls
  pub shelf : ShelfChecked m ls
  pub telling : TellingFollows m ls
  pub refusal : RefusalChangesNothing m ls
  pub answering : EveryCallAnswers m ls
  pub fixed : OnlyTheStreetIsFree m ls
  pub comparison : SpellsCompare m ls
