-- Lives of an area, and the words in which the promises over them are said.
use Rattle.std.specs.Prelude.{◌≡◌, ℕ, ◌+◌, Bool, true, false, cond, List, [], ◌∷◌, Some, None, Ok, Err, Option}
use Rattle.model.specs.Model.{Meaning}
use Rattle.model.specs.State.{Below}
use Rattle.street.specs.declared.Showing.{Showing}
use Rattle.street.specs.declared.Showing.TheVariants.{Shown, Dark}
use Rattle.street.specs.Street.{Seen, Bounded}
use Rattle.plan.specs.declared.limits.Limit.{Limit}
use Rattle.lives.specs.Area.{Area, fresh_book}
use Rattle.lives.specs.Calls.{Call, shelve, take, advance, change, give_back, Tale, rows, duty, street, done, Outcome, Calls, step_in}

-- a call with its outcome
pub record Event : Type 0 where
  pub call : Call
  pub outcome : Outcome

abbrev pub event : Call → Outcome → Event
event c o = record { call = c; outcome = o }

-- Any calls with their outcomes, the latest first, on an area that was fresh, over a street within the model's bounds.
pub data Life (m : Meaning) (ls : List Limit) : Area → List Event → Type 0 where
  fresh : (n : ℕ) (s : Seen) → Bounded m s → Life m ls (record { number = n; book = fresh_book m; street = s }) []
  then :
      {a : Area} {es : List Event} {b : Area} {c : Call} {o : Outcome}
      → Life m ls a es → Calls m ls a c o b → Life m ls b (event c o ∷ es)

-- is the call an accepted take, which begins a spell?
abbrev pub begins : Call → Outcome → Bool
begins c (Err r) = false
begins (shelve n sheet) (Ok t) = false
begins (take n) (Ok t) = true
begins (advance d) (Ok t) = false
begins (change d n) (Ok t) = false
begins (give_back d) (Ok t) = false

-- does the call put a plan on line? An accepted take or change does.
abbrev pub enters : Call → Outcome → Bool
enters c (Err r) = false
enters (shelve n sheet) (Ok t) = false
enters (take n) (Ok t) = true
enters (advance d) (Ok t) = false
enters (change d n) (Ok t) = true
enters (give_back d) (Ok t) = false

-- no step, or one that was shown
abbrev pub NotDark : Option Showing → Type 0
NotDark None = Unit {0}
NotDark (Some s) = s ≡ Shown

-- every step of the spell was shown
abbrev pub AllShown : List Event → Type 0
AllShown [] = Unit {0}
AllShown (e ∷ es) = cond (begins e.call e.outcome) (Unit {0}) (NotDark (step_in e.call e.outcome) × AllShown es)

-- one more, if the row was shown
abbrev pub one_more : Option Showing → ℕ → ℕ
one_more None n = n
one_more (Some Shown) n = n + 1
one_more (Some Dark) n = n

-- how many rows were shown since the plan was put on line
abbrev pub shown_since : List Event → ℕ
shown_since [] = 0
shown_since (e ∷ es) = cond (enters e.call e.outcome) 0 (one_more (step_in e.call e.outcome) (shown_since es))

-- Two spells side by side.

-- a call, and what it tells, without the duty's number
abbrev pub unnumbered : Call → Call
unnumbered (shelve n sheet) = shelve n sheet
unnumbered (take n) = take n
unnumbered (advance d) = advance 0
unnumbered (change d n) = change 0 n
unnumbered (give_back d) = give_back 0

abbrev pub tale_unnumbered : Tale → Tale
tale_unnumbered (rows n) = rows n
tale_unnumbered (duty n) = duty 0
tale_unnumbered (street s) = street s
tale_unnumbered done = done

abbrev pub outcome_unnumbered : Outcome → Outcome
outcome_unnumbered (Ok t) = Ok (tale_unnumbered t)
outcome_unnumbered (Err r) = Err r

-- at a step, no more arrives on the first street than on the second, at any place
abbrev pub ReceivesNoMore : Option Showing → Seen → Seen → Type 0
ReceivesNoMore None x y = Unit {0}
ReceivesNoMore (Some s) x y = Below x.arrivals y.arrivals

-- Two areas, each within a spell, with the same calls and answers but for duty numbers, and no step at which the first
-- street receives more than the second. They lead from the first pair of areas to the second pair.
pub data Abreast (m : Meaning) (ls : List Limit) (a u : Area) : Area → Area → Type 0 where
  at_take : Abreast m ls a u a u
  both_call :
      {b v : Area} (d w : Area) (c e : Call) (o q : Outcome) → Abreast m ls a u b v
      → Calls m ls b c o d → Calls m ls v e q w
      → unnumbered c ≡ unnumbered e → outcome_unnumbered o ≡ outcome_unnumbered q → begins c o ≡ false
      → ReceivesNoMore (step_in c o) d.street w.street
      → Abreast m ls a u d w
