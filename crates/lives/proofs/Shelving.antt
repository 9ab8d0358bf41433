-- What is shelved, what stands on a shelf, and what an area tells.
use Rattle.std.proofs.Common.{◌≡◌, ℕ, ◌≤◌, List, length, Some, None, Ok, Err, Option, sym, refl, ap, ◌∙◌, subst}
use Rattle.std.proofs.lemmas.Bool.{le-leb}
use Rattle.refusal.specs.declared.Refusal.{Refusal}
use Rattle.model.specs.Model.{Meaning, Lawful}
use Rattle.plan.specs.declared.limits.Limit.{Limit}
use Rattle.plan.specs.Check.{Timing, checked}
use Rattle.plan.proofs.Accepts.{checked_passed, checked_passes}
use Rattle.plan.proofs.Runs.{passes_hold, holds_pass}
use Rattle.plan_sheet.specs.Accepts.{rows_said, timing_said, reads}
use Rattle.plan_sheet.proofs.Accepting.{whole_start, count_rows, some_rows, says_reads}
use Rattle.lives.specs.Area.{Area, slot}
use Rattle.lives.specs.Calls.{shelve, rows, Outcome, no_in, first_no, Answers, count_in, book_after}
use Rattle.lives.specs.Lives.{Event, Life, fresh, then}
use Rattle.lives.specs.Promises.{Shelving, ShelfChecked, TellingFollows, RefusalChangesNothing}
use Rattle.lives.proofs.Asked.{told_in, all_yes}
use Rattle.lives.proofs.Sound.{life_sound}

-- under a fitting, empty number only the check of the plan is left to ask
pub only_check :
    (m : Meaning) (ls : List Limit) (a : Area) (n : ℕ) (sheet : List ℕ) (p : Timing)
    → 1 ≤ n → n ≤ 8 → slot a.book.shelf n ≡ None → reads m sheet ≡ Ok p
    → first_no m ls a (shelve n sheet) ≡ no_in (checked m ls p.start p.rows)
only_check m ls a n sheet p low high e f = rw (le-leb 1 n low, le-leb n 8 high, e, f)

told_rows :
    (m : Meaning) (a : Area) (n : ℕ) (sheet : List ℕ) (p : Timing) (q : Option Refusal) (o : Outcome) → reads m sheet ≡ Ok p
    → q ≡ None → Answers m a (shelve n sheet) q o → o ≡ Ok (rows (length p.rows))
told_rows m a n sheet p (Some r) o f e y = cc
told_rows m a n sheet p None (Err r) f e y = absurd y
told_rows m a n sheet p None (Ok t) f e y = ap Ok (y ∙ ap (λ x. rows (count_in x)) f)

module _ (m : Meaning) (law : Lawful m) (ls : List Limit) where
  pub shelving : Shelving m ls
  shelving a b es n sheet p o life low high e said s =
      let rs : List (List ℕ) = rows_said p in
      let w = whole_start m sheet p said in
      let f = says_reads m sheet law p said in
      let q = only_check m ls a n sheet (timing_said p) low high e f in (
        (λ x.
            let none = all_yes m a (shelve n sheet) (rows p.count) (first_no m ls a (shelve n sheet))
            (subst (λ z. Answers m a (shelve n sheet) (first_no m ls a (shelve n sheet)) z) x s.answer) in
            let k = told_in (checked m ls p.start rs) (sym q ∙ none) in
            passes_hold m law ls p.start rs (some_rows m sheet p said) (checked_passed m ls law p.start rs k.0 w k.1)),
        (λ h.
            let passed = checked_passes m ls p.start rs (holds_pass m law ls p.start rs w h) in
            told_rows m a n sheet (timing_said p) (first_no m ls a (shelve n sheet)) o f (q ∙ ap no_in passed) s.answer
            ∙ ap (λ c. Ok (rows c)) (count_rows m sheet p said)),
      )

  pub shelf_checked : ShelfChecked m ls
  shelf_checked a es life n p e =
      let s = (life_sound m law ls life).shelf n p e in
      (checked_passes m ls p.start p.rows s.passes, passes_hold m law ls p.start p.rows s.some s.passes)

-- the book follows from the calls and answers alone
books :
    (m : Meaning) (ls : List Limit) {a b : Area} {es : List Event} → Life m ls a es → Life m ls b es → a.book ≡ b.book
books m ls (fresh n s w) (fresh k u v) = refl
books m ls (then {c = c} {o = o} life s) (then other t) =
    s.book ∙ ap (λ x. book_after m ls c o x) (books m ls life other) ∙ sym t.book

pub telling_follows : (m : Meaning) (ls : List Limit) → TellingFollows m ls
telling_follows m ls a b es life other = books m ls life other

pub refusal_changes_nothing : (m : Meaning) (ls : List Limit) → RefusalChangesNothing m ls
refusal_changes_nothing m ls a b c r s = λ i. record { number = s.number i; book = s.book i; street = s.street i }
