-- What the questions of an accepted call have told.
use Rattle.std.proofs.Common.{◌≡◌, ℕ, zero, suc, Bool, true, false, ◌&&◌, eqb, List, get_or, Some, None, Ok, Err, Option, refl}
use Rattle.std.proofs.lemmas.Bool.{and_parts}
use Rattle.refusal.specs.declared.Refusal.{Refusal}
use Rattle.refusal.specs.Questions.{refusal, Told, then}
use Rattle.refusal.proofs.Turning.{then_parts}
use Rattle.model.specs.Model.{Meaning}
use Rattle.model.specs.State.{lowest_above}
use Rattle.plan.specs.declared.limits.Limit.{Limit}
use Rattle.plan.specs.Check.{Timing, checked}
use Rattle.plan_sheet.specs.Accepts.{reads}
use Rattle.lives.specs.Area.{Area, slot}
use Rattle.lives.specs.Calls.{Call, shelve, take, advance, change, Tale, ask, else_ask, is_empty, is_on, no_in, ask_number, ask_empty, ask_sheet, ask_off, ask_below, ask_plan, ask_duty, ask_covered, first_no, Answers}

-- an accepted call had no question answered no
pub all_yes : (m : Meaning) (a : Area) (c : Call) (t : Tale) (q : Option Refusal) → Answers m a c q (Ok t) → q ≡ None
all_yes m a c t (Some r) e = cc
all_yes m a c t None h = refl

both_yes : (q r : Option Refusal) → else_ask q r ≡ None → (q ≡ None) × (r ≡ None)
both_yes (Some x) r e = cc
both_yes None r e = (refl, e)

yes : (t : Bool) (r : Refusal) → ask t r ≡ None → t ≡ true
yes true r e = refl
yes false r e = cc

-- a plan stands there, and the state is nowhere above its start
pub record Found (o : Option Timing) (x : List ℕ) : Type 0 where
  pub plan : Timing
  pub stands : o ≡ Some plan
  pub low : lowest_above x plan.start ≡ None

below_yes : (n : ℕ) (o : Option ℕ) → ask_below n o ≡ None → o ≡ None
below_yes n None e = refl
below_yes n (Some p) e = cc

plan_yes : (n : ℕ) (x : List ℕ) (o : Option Timing) → ask_plan n x o ≡ None → Found o x
plan_yes n x None e = cc
plan_yes n x (Some p) e = record { plan = p; stands = refl; low = below_yes n (lowest_above x p.start) e }

-- what is to be put under an empty number: a plan that was read and that the check accepts
pub record Shelvable (m : Meaning) (ls : List Limit) (shelf : List (Option Timing)) (n : ℕ) (sheet : List ℕ) : Type 0 where
  pub index : ℕ
  pub number : n ≡ suc index
  pub empty : get_or shelf index None ≡ None
  pub plan : Timing
  pub read : reads m sheet ≡ Ok plan
  pub count : ℕ
  pub passed : checked m ls plan.start plan.rows ≡ Ok count

pub told_in : {A : Type 0} (t : Told A) → no_in t ≡ None → (x : A) × (t ≡ Ok x)
told_in (Ok x) e = (x, refl)
told_in (Err r) e = cc

empty_none : (o : Option Timing) → is_empty o ≡ true → o ≡ None
empty_none None e = refl
empty_none (Some p) e = cc

module _ (m : Meaning) (ls : List Limit) where
  shelvable :
      (shelf : List (Option Timing)) (n : ℕ) (sheet : List ℕ) → ask_number n ≡ None → slot shelf n ≡ None
      → ask_sheet m ls (reads m sheet) ≡ None → Shelvable m ls shelf n sheet
  shelvable shelf zero sheet e z h = cc
  shelvable shelf (suc k) sheet e z h =
      let t = told_in (then (reads m sheet) (λ p. checked m ls p.start p.rows)) h in
      let q = then_parts (reads m sheet) (λ p. checked m ls p.start p.rows) t.0 t.1 in
      record { index = k; number = refl; empty = z; plan = q.0; read = q.1; count = t.0; passed = q.2 }

  module _ (a : Area) (t : Tale) where
    pub shelve_asked :
        (n : ℕ) (sheet : List ℕ) → Answers m a (shelve n sheet) (first_no m ls a (shelve n sheet)) (Ok t)
        → Shelvable m ls a.book.shelf n sheet
    shelve_asked n sheet y =
        let shelf = a.book.shelf in
        let x = ask_sheet m ls (reads m sheet) in
        let e = both_yes (ask_number n) (else_ask (ask_empty a.book.shelf n) x) (all_yes m a (shelve n sheet) t _ y) in
        let f = both_yes (ask_empty a.book.shelf n) x e.1 in
        shelvable shelf n sheet e.0 (empty_none (slot shelf n) (yes (is_empty (slot shelf n)) (refusal 12 n 0) f.0)) f.1

    pub take_asked : (n : ℕ) → Answers m a (take n) (first_no m ls a (take n)) (Ok t) → Found (slot a.book.shelf n) a.street.queues
    take_asked n y =
        let x = ask_plan 19 a.street.queues (slot a.book.shelf n) in
        plan_yes 19 a.street.queues (slot a.book.shelf n) (both_yes (ask_off a.book.state) x (all_yes m a (take n) t _ y)).1

    duty_yes : (d : ℕ) → ask_duty a.book.state a.number d ≡ None → is_on a.book.state ≡ true
    duty_yes d e =
        (and_parts (is_on a.book.state) (eqb d a.number) (yes (is_on a.book.state && eqb d a.number) (refusal 20 0 0) e)).0

    pub advance_asked : (d : ℕ) → Answers m a (advance d) (first_no m ls a (advance d)) (Ok t) → is_on a.book.state ≡ true
    advance_asked d y = duty_yes d (all_yes m a (advance d) t _ y)

    pub change_asked : (d n : ℕ) → Answers m a (change d n) (first_no m ls a (change d n)) (Ok t) → Found (slot a.book.shelf n) a.book.envelope
    change_asked d n y =
        let x = ask_plan 22 a.book.envelope (slot a.book.shelf n) in
        let e = both_yes (ask_duty a.book.state a.number d) (else_ask (ask_covered a.book.state) x) (all_yes m a (change d n) t _ y) in
        plan_yes 22 a.book.envelope (slot a.book.shelf n) (both_yes (ask_covered a.book.state) x e.1).1
