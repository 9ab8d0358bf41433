-- One call of a day: the area's call, what it came to, and the duty that is then in hand.
use Rattle.std.specs.Prelude.{◌≡◌, ℕ, true, List, drop, Some, None, Ok, Err, Option}
use Rattle.model.specs.Model.{Meaning}
use Rattle.street.specs.declared.Showing.{Showing}
use Rattle.street.specs.declared.Showing.TheVariants as showing
use Rattle.street.specs.Street.{Seen}
use Rattle.lives.specs.Area.{Area}
use Rattle.lives.specs.Calls.{Call, shelve, take, advance, change, give_back, rows, duty, street, done, Outcome, is_on}
use Rattle.area.specs.declared.area.Area.{Area as AreaCode}
use Rattle.area.specs.declared.area.Duty.{Duty}
use Rattle.area.specs.Code.{Called}
use Rattle.day.specs.declared.call.DayCall.{DayCall}
use Rattle.day.specs.declared.call.DayCall.TheVariants.{Shelve, Take, Advance, Change, Give}
use Rattle.day.specs.declared.run.Done.{Done}
use Rattle.day.specs.declared.run.Done.TheVariants as out

-- the number of the duty in hand
abbrev pub held : Option Duty → Option ℕ
held None = None
held (Some d) = Some d.area

-- a duty in hand is that of the area, which is on line
abbrev pub InHand : Area → Option ℕ → Type 0
InHand a None = Unit {0}
InHand a (Some d) = (is_on a.book.state ≡ true) × (d ≡ a.number)

-- the area's call; a call that needs a duty is none without one
abbrev pub area_call : List ℕ → DayCall → Option ℕ → Option Call
area_call bs (Shelve n place) h = Some (shelve n (drop place bs))
area_call bs (Take n) h = Some (take n)
area_call bs Advance None = None
area_call bs Advance (Some d) = Some (advance d)
area_call bs (Change n) None = None
area_call bs (Change n) (Some d) = Some (change d n)
area_call bs Give None = None
area_call bs Give (Some d) = Some (give_back d)

-- what an accepted call came to, where it tells nothing more
abbrev pub settled : DayCall → Done
settled (Shelve n place) = out.Changed
settled (Take n) = out.Changed
settled Advance = out.Changed
settled (Change n) = out.Changed
settled Give = out.Given

abbrev pub answered : Showing → Done
answered showing.Shown = out.Shown
answered showing.Dark = out.Dark

-- what a call came to, by its outcome
abbrev pub done_of : DayCall → Outcome → Done
done_of call (Err r) = out.Refused r
done_of call (Ok (rows n)) = out.Shelved n
done_of call (Ok (duty d)) = out.Duty d
done_of call (Ok (street s)) = answered s
done_of call (Ok done) = settled call

-- an accepted give spends the duty
abbrev pub spent : DayCall → Option ℕ → Option ℕ
spent (Shelve n place) h = h
spent (Take n) h = h
spent Advance h = h
spent (Change n) h = h
spent Give h = None

-- the duty in hand after a call, by its outcome
abbrev pub hand_after : DayCall → Outcome → Option ℕ → Option ℕ
hand_after call (Err r) h = h
hand_after call (Ok (rows n)) h = h
hand_after call (Ok (duty d)) h = Some d
hand_after call (Ok (street s)) h = h
hand_after call (Ok done) h = spent call h

-- a call with this in hand, as the area's call with some outcome; none does nothing
abbrev pub RanAs : {S : Type 0} → (S → Meaning) → (S → Seen) → Option Call → DayCall → AreaCode S → Option ℕ → Done → AreaCode S → Option ℕ → Type 0
RanAs meaning seen (Some c) call a h r b k =
    (o : Outcome) × Called meaning seen a c o b × (r ≡ done_of call o) × (k ≡ hand_after call o h)
RanAs meaning seen None call a h r b k = (b ≡ a) × (r ≡ out.NoDuty) × (k ≡ h)
