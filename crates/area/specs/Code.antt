-- What the struct of an area is, and what a call does to it.
use Rattle.std.specs.Prelude.{◌≡◌, ℕ, List, [], map, Some, None, Ok, Err, vec_items, Option, Result}
use Rattle.refusal.specs.declared.Refusal.{Refusal}
use Rattle.refusal.specs.Questions.{refusal, Told}
use Rattle.model.specs.Model.{Meaning}
use Rattle.street.specs.Street.{Seen}
use Rattle.plan.specs.declared.plan.Plan.{Plan}
use Rattle.plan.specs.declared.limits.Limit.{Limit}
use Rattle.plan.specs.Check.{Timing, timing_of}
use Rattle.lives.specs.declared.fault.AreaFault.{AreaFault}
use Rattle.lives.specs.Faults.{area_refusal}
use Rattle.lives.specs.Area
use Rattle.lives.specs.Calls.{Call, Tale, done, Outcome, Calls, step_in}
use Rattle.lives.specs.Lives.{Life}
use Rattle.lives.specs.Promises.{Promises, CoveredLife}
use Rattle.area.specs.declared.area.Book.{Book}
use Rattle.area.specs.declared.area.Area.{Area as AreaCode}
use Rattle.area.specs.declared.area.Duty.{Duty}
use Rattle.area.specs.declared.area.Unspent.{Unspent}

abbrev pub timing_in : Option Plan → Option Timing
timing_in (Some p) = Some (timing_of p)
timing_in None = None

abbrev pub shelf_of : List (Option Plan) → List (Option Timing)
shelf_of plans = map timing_in plans

-- the shelf number of the plan on line; 0 where none is
abbrev pub number_on : Option ℕ → ℕ
number_on None = 0
number_on (Some number) = number

abbrev pub book_of : Book → Area.Book
book_of b =
    let p = b.position in
    record { shelf = shelf_of b.shelf; state = p.state; on = number_on b.on; row = p.row; envelope = p.envelope }

-- the area, by what its street shows of itself
abbrev pub area_of : {S : Type 0} → (S → Seen) → AreaCode S → Area.Area
area_of seen a = record { number = a.number; book = book_of a.book; street = seen a.street }

abbrev pub limits_of : {S : Type 0} → AreaCode S → List Limit
limits_of a = vec_items a.book.limits

-- what a call answered, by what it tells
abbrev pub outcome : {A : Type 0} → (A → Tale) → Result A AreaFault → Outcome
outcome tale (Ok x) = Ok (tale x)
outcome tale (Err f) = Err (area_refusal f)

-- the refusal, where there is one
abbrev pub asked : {A : Type 0} → Result A AreaFault → Option Refusal
asked (Ok x) = None
asked (Err f) = Some (area_refusal f)

-- the plan, or the refusal
abbrev pub timing_told : Result Plan AreaFault → Told Timing
timing_told (Ok p) = Ok (timing_of p)
timing_told (Err f) = Err (area_refusal f)

-- question 18: is there a plan?
abbrev pub found : Option Timing → Told Timing
found (Some p) = Ok p
found None = Err (refusal 18 0 0)

-- the outcome of a give back, and that a refused one hands back the duty it was given
abbrev pub given : {A : Type 0} → Result A Unspent → Outcome
given (Ok x) = Ok done
given (Err u) = Err (area_refusal u.fault)

abbrev pub HandedBack : {A : Type 0} → Duty → Result A Unspent → Type 0
HandedBack d (Ok x) = Unit {0}
HandedBack d (Err u) = u.duty ≡ d

-- an area that was made over this street, with these limits and this number
pub record Made {S : Type 0} (meaning : S → Meaning) (seen : S → Seen) (over : S) (ls : List Limit) (n : ℕ) (a : AreaCode S) : Type 0 where
  -- it has the street, the limits and the number that it was given, and is fresh: its life begins
  pub street : a.street ≡ over
  pub limits : limits_of a ≡ ls
  pub fresh : area_of seen a ≡ record { number = n; book = Area.fresh_book (meaning over); street = seen over }
  pub life : Life (meaning over) ls (area_of seen a) []
  -- whatever is called from here on, the promises hold over its whole life
  pub promises : Promises (meaning over) ls
  -- and there are lives for them to speak of
  pub not_empty : CoveredLife

-- one call of an area, with its outcome
pub record Called {S : Type 0} (meaning : S → Meaning) (seen : S → Seen) (a : AreaCode S) (c : Call) (o : Outcome) (b : AreaCode S) : Type 0 where
  -- the call as it is defined
  pub does : Calls (meaning a.street) (limits_of a) (area_of seen a) c o (area_of seen b)
  -- the model and the limits stay, and only a step touches the street
  pub model : meaning b.street ≡ meaning a.street
  pub limits : limits_of b ≡ limits_of a
  pub still : step_in c o ≡ None → b.street ≡ a.street
