-- Shelving on a fresh area asks what the check of a sheet asks.
use Rattle.std.proofs.Common.{◌≡◌, ℕ, List, Ok, Err, Result, refl, ap, ◌∙◌, subst}
use Rattle.refusal.specs.Questions.{Told, then, told_by}
use Rattle.model.specs.Model.{Meaning}
use Rattle.street.specs.Street.{Seen}
use Rattle.plan.specs.declared.limits.Limit.{Limit}
use Rattle.plan.specs.Check.{Timing, checked}
use Rattle.plan.proofs.Accepts.{checked_count}
use Rattle.plan_sheet.specs.Plans.{PlanSaid, plan_sheet}
use Rattle.plan_sheet.specs.Accepts.{reads, rows_said, timing_said, checked_sheet}
use Rattle.lives.specs.declared.fault.AreaFault.{AreaFault}
use Rattle.lives.specs.Faults.{area_refusal}
use Rattle.lives.specs.Area.{Area, fresh_book}
use Rattle.lives.specs.Calls.{shelve, rows, no_in, count_in, first_no, Answers}
use Rattle.area.specs.Code.{outcome}

module _ (m : Meaning) (ls : List Limit) (sheet : List ℕ) where
  -- the check of a plan that was read
  abbrev check_of : Told Timing → Told ℕ
  check_of said = then said (λ p. checked m ls p.start p.rows)

  sheet_check : check_of (reads m sheet) ≡ checked_sheet m ls sheet
  unfolding reads
  sheet_check = go (plan_sheet m sheet)
    where
      go : (t : Told PlanSaid) → check_of (then t (λ p. Ok (timing_said p))) ≡ then t (λ p. checked m ls p.start (rows_said p))
      go (Ok p) = refl
      go (Err r) = refl

  -- the count of rows that the check tells is that of the plan that was read
  counted : (said : Told Timing) (k : ℕ) → check_of said ≡ Ok k → count_in said ≡ k
  counted (Ok p) k e = checked_count m ls p.start p.rows k e
  counted (Err r) k e = cc

  by_check : (a : Area) (t : Told ℕ) (r : Result ℕ AreaFault) → check_of (reads m sheet) ≡ t → Answers m a (shelve 1 sheet) (no_in t) (outcome rows r) → told_by area_refusal r ≡ t
  by_check a (Err e) (Ok k) x y = cc
  by_check a (Err e) (Err f) x y = let z : area_refusal f ≡ e = cc in ap Err z
  by_check a (Ok k) (Ok j) x y = let z : j ≡ count_in (reads m sheet) = cc in ap Ok (z ∙ counted (reads m sheet) k x)
  by_check a (Ok k) (Err f) x y = absurd y

  -- the answer of a shelve under number 1 of a fresh area
  pub shelved_fresh :
      (n : ℕ) (s : Seen) (r : Result ℕ AreaFault)
      → (let a : Area = record { number = n; book = fresh_book m; street = s } in Answers m a (shelve 1 sheet) (first_no m ls a (shelve 1 sheet)) (outcome rows r))
      → told_by area_refusal r ≡ checked_sheet m ls sheet
  shelved_fresh n s r y = by_check (record { number = n; book = fresh_book m; street = s }) (check_of (reads m sheet)) r refl y ∙ sheet_check

-- the same of an area that was made with this model and these limits
pub shelved_new :
    (m k : Meaning) (ls js : List Limit) (sheet : List ℕ) (a : Area) (n : ℕ) (s : Seen) (r : Result ℕ AreaFault)
    → k ≡ m → js ≡ ls → a ≡ record { number = n; book = fresh_book m; street = s }
    → Answers k a (shelve 1 sheet) (first_no k js a (shelve 1 sheet)) (outcome rows r)
    → told_by area_refusal r ≡ checked_sheet m ls sheet
shelved_new m k ls js sheet a n s r e f g y =
    shelved_fresh m ls sheet n s r
    (subst (λ x. Answers m x (shelve 1 sheet) (first_no m ls x (shelve 1 sheet)) (outcome rows r)) g
    (subst (λ xs. Answers m a (shelve 1 sheet) (first_no m xs a (shelve 1 sheet)) (outcome rows r)) f
    (subst (λ x. Answers x a (shelve 1 sheet) (first_no x js a (shelve 1 sheet)) (outcome rows r)) e y)))
