-- The calls of an area: what each asks, what it tells, and what it does to the book and to the street.
use Rattle.std.specs.Prelude.{◌≡◌, ℕ, pred, Bool, true, false, ◌&&◌, List, length, Some, None, Ok, Err, Option, ◌==◌, nat_le, slice_set}
use Rattle.refusal.specs.declared.Refusal.{Refusal}
use Rattle.refusal.specs.Questions.{refusal, Told, then}
use Rattle.model.specs.Model.{Meaning}
use Rattle.model.specs.State.{lowest_above}
use Rattle.street.specs.declared.Showing.{Showing}
use Rattle.street.specs.declared.Showing.TheVariants.{Dark}
use Rattle.street.specs.Street.{Seen, Showed}
use Rattle.plan.specs.declared.limits.Limit.{Limit}
use Rattle.plan.specs.Check.{Timing, checked}
use Rattle.plan_sheet.specs.Accepts.{reads}
use Rattle.lives.specs.declared.state.State.{State}
use Rattle.lives.specs.declared.state.State.TheVariants.{OffLine, Covered, Lost}
use Rattle.lives.specs.Area.{Book, Area, slot, start_in, current_row, stepped}

-- the calls; advance, change and give back come with the number of a duty
pub data Call : Type 0 where
  shelve : (number : ℕ) (sheet : List ℕ) → Call
  take : (number : ℕ) → Call
  advance : (duty : ℕ) → Call
  change : (duty number : ℕ) → Call
  give_back : (duty : ℕ) → Call

-- what an accepted call tells: a count of rows, a duty's number, the street's answer, or nothing more
pub data Tale : Type 0 where
  rows : ℕ → Tale
  duty : ℕ → Tale
  street : Showing → Tale
  done : Tale

-- a call is accepted and tells something, or it is refused
abbrev pub Outcome : Type 0
Outcome = Told Tale

-- The questions, in order: the first no decides.

-- a question, with the refusal of a no
abbrev pub ask : Bool → Refusal → Option Refusal
ask true r = None
ask false r = Some r

-- the next question, unless there was a no
abbrev pub else_ask : Option Refusal → Option Refusal → Option Refusal
else_ask (Some r) later = Some r
else_ask None later = later

abbrev pub is_empty : Option Timing → Bool
is_empty None = true
is_empty (Some p) = false

abbrev pub is_on : State → Bool
is_on OffLine = false
is_on Covered = true
is_on (Lost loss) = true

abbrev pub is_off : State → Bool
is_off OffLine = true
is_off Covered = false
is_off (Lost loss) = false

abbrev pub is_covered : State → Bool
is_covered OffLine = false
is_covered Covered = true
is_covered (Lost loss) = false

-- the refusal, where there is one
abbrev pub no_in : {A : Type 0} → Told A → Option Refusal
no_in (Ok x) = None
no_in (Err r) = Some r

abbrev pub ask_number : ℕ → Option Refusal
ask_number n = ask (nat_le 1 n && nat_le n 8) (refusal 11 0 0)

abbrev pub ask_empty : List (Option Timing) → ℕ → Option Refusal
ask_empty shelf n = ask (is_empty (slot shelf n)) (refusal 12 n 0)

-- the questions on the sheet, and then those of the check
abbrev pub ask_sheet : Meaning → List Limit → Told Timing → Option Refusal
ask_sheet m ls said = no_in (then said (λ p. checked m ls p.start p.rows))

abbrev pub ask_off : State → Option Refusal
ask_off state = ask (is_off state) (refusal 17 0 0)

-- question n on the lowest place above a start
abbrev pub ask_below : ℕ → Option ℕ → Option Refusal
ask_below n None = None
ask_below n (Some place) = Some (refusal n place 0)

-- question 18 on the plan, and then question n: is the state at or below its start?
abbrev pub ask_plan : ℕ → List ℕ → Option Timing → Option Refusal
ask_plan n x None = Some (refusal 18 0 0)
ask_plan n x (Some p) = ask_below n (lowest_above x p.start)

-- is the area on line, and the duty of its number?
abbrev pub ask_duty : State → ℕ → ℕ → Option Refusal
ask_duty state number d = ask (is_on state && d == number) (refusal 20 0 0)

abbrev pub ask_covered : State → Option Refusal
ask_covered state = ask (is_covered state) (refusal 21 0 0)

-- the first no of a call
abbrev pub first_no : Meaning → List Limit → Area → Call → Option Refusal
first_no m ls a (shelve n sheet) = else_ask (ask_number n) (else_ask (ask_empty a.book.shelf n) (ask_sheet m ls (reads m sheet)))
first_no m ls a (take n) = else_ask (ask_off a.book.state) (ask_plan 19 a.street.queues (slot a.book.shelf n))
first_no m ls a (advance d) = ask_duty a.book.state a.number d
first_no m ls a (change d n) =
    else_ask (ask_duty a.book.state a.number d)
    (else_ask (ask_covered a.book.state) (ask_plan 22 a.book.envelope (slot a.book.shelf n)))
first_no m ls a (give_back d) = ask_duty a.book.state a.number d

-- What a call tells.

abbrev pub count_in : Told Timing → ℕ
count_in (Ok p) = length p.rows
count_in (Err r) = 0

-- an advance tells what the street answered
abbrev pub Tells : Meaning → Area → Call → Tale → Type 0
Tells m a (shelve n sheet) t = t ≡ rows (count_in (reads m sheet))
Tells m a (take n) t = t ≡ duty a.number
Tells m a (advance d) t = (s : Showing) × (t ≡ street s)
Tells m a (change d n) t = t ≡ done
Tells m a (give_back d) t = t ≡ done

-- the outcome that the questions leave
abbrev pub Answers : Meaning → Area → Call → Option Refusal → Outcome → Type 0
Answers m a c (Some r) o = o ≡ Err r
Answers m a c None (Err r) = ⊥
Answers m a c None (Ok t) = Tells m a c t

-- What a call does to the book.

-- the street's answer in what an advance tells
abbrev pub answer_in : Tale → Showing
answer_in (rows n) = Dark
answer_in (duty n) = Dark
answer_in (street s) = s
answer_in done = Dark

-- the shelf with what was read under this number
abbrev pub put : ℕ → Told Timing → List (Option Timing) → List (Option Timing)
put n (Ok p) shelf = slice_set shelf (pred n) (Some p)
put n (Err r) shelf = shelf

abbrev pub done_to : Meaning → List Limit → Call → Tale → Book → Book
done_to m ls (shelve n sheet) t b =
    record { shelf = put n (reads m sheet) b.shelf; state = b.state; on = b.on; row = b.row; envelope = b.envelope }
done_to m ls (take n) t b =
    record { shelf = b.shelf; state = Covered; on = n; row = 0; envelope = start_in (slot b.shelf n) }
done_to m ls (advance d) t b = stepped m ls (answer_in t) b
done_to m ls (change d n) t b = record { shelf = b.shelf; state = b.state; on = n; row = 0; envelope = b.envelope }
done_to m ls (give_back d) t b = record { shelf = b.shelf; state = OffLine; on = 0; row = 0; envelope = m.tops }

-- a refused call changes nothing
abbrev pub book_after : Meaning → List Limit → Call → Outcome → Book → Book
book_after m ls c (Ok t) b = done_to m ls c t b
book_after m ls c (Err r) b = b

-- What a call does to the street: only an accepted advance shows it a row.

-- whether the call was a step, and then what the street answered
abbrev pub step_in : Call → Outcome → Option Showing
step_in c (Err r) = None
step_in (shelve n sheet) (Ok t) = None
step_in (take n) (Ok t) = None
step_in (advance d) (Ok t) = Some (answer_in t)
step_in (change d n) (Ok t) = None
step_in (give_back d) (Ok t) = None

abbrev pub Moves : Meaning → List ℕ → Option Showing → Seen → Seen → Type 0
Moves m row None before after = after ≡ before
Moves m row (Some s) before after = Showed m row before s after

-- One call of an area, with its outcome.
pub record Calls (m : Meaning) (ls : List Limit) (a : Area) (c : Call) (o : Outcome) (b : Area) : Type 0 where
  pub answer : Answers m a c (first_no m ls a c) o
  pub book : b.book ≡ book_after m ls c o a.book
  pub street : Moves m (current_row m a.book) (step_in c o) a.street b.street
  pub number : b.number ≡ a.number
