-- What is printed of a whole day.
use Rattle.std.specs.Prelude.{◌≡◌, ℕ, Bool, true, false, List, [], ◌∷◌, ◌++◌, drop, is_err, IfOk, Some, None, Ok, Err, Option, Result}
use Rattle.refusal.specs.Questions.{Told}
use Rattle.words.specs.Faults.{sheet_refusal}
use Rattle.records.specs.declared.fault.ModelFault.{ModelFault}
use Rattle.records.specs.declared.fault.ModelFault.TheVariants.{Sheet, Memory}
use Rattle.model.specs.Model.{Meaning}
use Rattle.street.specs.Street.{Seen}
use Rattle.street.specs.Standing.{fresh_seen}
use Rattle.network.specs.Network.{network}
use Rattle.linear.specs.Lines.{linear}
use Rattle.plan.specs.declared.limits.Limit.{Limit}
use Rattle.lives.specs.Area.{Area, fresh_book}
use Rattle.lives.specs.Calls.{Call, Outcome, Calls}
use Rattle.area.specs.declared.area.Area.{Area as AreaCode}
use Rattle.area.specs.Code.{area_of, limits_of}
use Rattle.model_sheet.specs.Content.{Content, told_meant}
use Rattle.network_sheet.specs.Network.{network_sheet}
use Rattle.linear_sheet.specs.Linear.{begins_linear, linear_sheet}
use Rattle.day.specs.declared.call.DayCall.{DayCall}
use Rattle.day.specs.declared.run.Done.{Done}
use Rattle.day.specs.declared.run.Done.TheVariants.{NoDuty}
use Rattle.day.specs.Day.{DaySaid, day_sheet}
use Rattle.day.specs.Running.{InHand, area_call, done_of, hand_after}
use Rattle.day.specs.Text.{line_text, refused_line}

-- a call of the day from one area to another, by the area's own call with some outcome; none does nothing
abbrev pub Runs : Meaning → List Limit → Option Call → DayCall → Area → Option ℕ → Done → Area → Option ℕ → Type 0
Runs m ls (Some c) call a h r b k = (o : Outcome) × Calls m ls a c o b × (r ≡ done_of call o) × (k ≡ hand_after call o h)
Runs m ls None call a h r b k = (b ≡ a) × (r ≡ NoDuty) × (k ≡ h)

-- the lines of these calls of a sheet, one after the other, from an area with this in hand
abbrev pub Lines : Meaning → List Limit → List ℕ → ℕ → List DayCall → Area → Option ℕ → List ℕ → Type 0
Lines m ls bs places [] a h text = text ≡ []
Lines m ls bs places (call ∷ calls) a h text =
    (r : Done) × (b : Area) × (k : Option ℕ) × (rest : List ℕ)
    × Runs m ls (area_call bs call h) call a h r b k × (text ≡ line_text call r b.book places ++ rest) × Lines m ls bs places calls b k rest

-- one call and its line, where there was memory for it and for every line before it
pub record LineRun {S : Type 0} (meaning : S → Meaning) (seen : S → Seen) (bs : List ℕ) (places : ℕ) (call : DayCall) (a : AreaCode S) (h : Option ℕ) (out : List ℕ) (before : Bool) (b : AreaCode S) (k : Option ℕ) (next : List ℕ) (after : Bool) : Type 0 where
  pub safe : InHand (area_of seen b) k
  pub model : meaning b.street ≡ meaning a.street
  pub limits : limits_of b ≡ limits_of a
  pub all : after ≡ true → before ≡ true
  pub line : after ≡ true → (r : Done) × Runs (meaning a.street) (limits_of a) (area_call bs call h) call (area_of seen a) h r (area_of seen b) k × (next ≡ out ++ line_text call r (area_of seen b).book places)

-- after the first i calls: whatever the lines of the others are, they follow those so far
pub record SoFar {S : Type 0} (meaning : S → Meaning) (seen : S → Seen) (bs : List ℕ) (places : ℕ) (calls : List DayCall) (a : AreaCode S) (i : ℕ) (b : AreaCode S) (k : Option ℕ) (out : List ℕ) (all : Bool) : Type 0 where
  pub safe : InHand (area_of seen b) k
  pub model : meaning b.street ≡ meaning a.street
  pub limits : limits_of b ≡ limits_of a
  pub lines : all ≡ true → (text : List ℕ) → Lines (meaning a.street) (limits_of a) bs places (drop i calls) (area_of seen b) k text → Lines (meaning a.street) (limits_of a) bs places calls (area_of seen a) None (out ++ text)

-- what is printed after a sheet was read, or its refusal
abbrev pub After : {C : Type 0} → (C → List ℕ → Type 0) → Told C → List ℕ → Type 0
After prints (Ok c) text = prints c text
After prints (Err r) text = text ≡ refused_line r

-- the refusal of a sheet, unless there was no memory
abbrev pub Faulted : {V E : Type 0} → (V → List ℕ) → ModelFault → Result V E → Type 0
Faulted bytes (Sheet f) r = IfOk r (λ s. bytes s ≡ refused_line (sheet_refusal f))
Faulted bytes (Memory e) r = is_err r ≡ true

-- a fresh area over a fresh street
abbrev pub fresh_area : Meaning → DaySaid → Area
fresh_area m d = record { number = d.number; book = fresh_book m; street = fresh_seen m d.queues }

-- what is printed of a day sheet, for a model and its limits
abbrev pub DayLines : Meaning → List Limit → List ℕ → List ℕ → Type 0
DayLines m ls bs text = After (λ d. Lines m ls bs m.places d.calls (fresh_area m d) None) (day_sheet m bs) text

-- what is printed of an input where its model sheet tells this, and a day sheet follows
abbrev pub DayOn : Told (Content Meaning) → List ℕ → List ℕ → Type 0
DayOn sheet bs text = After (λ c. DayLines c.model c.limits (drop c.end bs)) sheet text

abbrev pub NetworkDay : List ℕ → List ℕ → Type 0
NetworkDay bs text = DayOn (told_meant network (network_sheet bs)) bs text

abbrev pub LinearDay : List ℕ → List ℕ → Type 0
LinearDay bs text = DayOn (told_meant linear (linear_sheet bs)) bs text

abbrev pub ByModel : Bool → List ℕ → List ℕ → Type 0
ByModel true bs text = LinearDay bs text
ByModel false bs text = NetworkDay bs text

-- what is printed of an input
abbrev pub Printed : List ℕ → List ℕ → Type 0
Printed bs text = ByModel (begins_linear bs) bs text
