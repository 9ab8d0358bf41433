-- The rows are shown in order, round and round the plan.
use Rattle.std.proofs.Common.{◌≡◌, ℕ, suc, ◌+◌, ◌%◌, ◌<◌, ◌≤◌, Bool, true, false, cond, ltb, List, ◌∷◌, length, get_or, Some, Ok, Err, Option, sym, refl, ap, ◌∙◌, subst, mod-lt, mod-eq_of_lt, add-one, arith}
use native.Mathlib.Nat.{zero-mod, mod_self, suc-mod}
use Rattle.std.proofs.lemmas.Bool.{ltb-true, ltb-false}
use Rattle.model.specs.Model.{Meaning, Lawful, dark_row}
use Rattle.street.specs.declared.Showing.{Showing}
use Rattle.street.specs.declared.Showing.TheVariants.{Shown, Dark}
use Rattle.plan.specs.declared.limits.Limit.{Limit}
use Rattle.plan.specs.Check.{Timing}
use Rattle.lives.specs.Area.{Area, slot, rows_in, rows_on, row_after}
use Rattle.lives.specs.Calls.{Call, shelve, take, advance, change, give_back, street, Outcome, is_on, first_no, Answers, answer_in, book_after}
use Rattle.lives.specs.Lives.{Event, event, Life, fresh, then, one_more, shown_since}
use Rattle.lives.specs.Promises.{Rounds}
use Rattle.lives.proofs.Asked.{Found, shelve_asked, take_asked, advance_asked, change_asked}
use Rattle.lives.proofs.Shelf.{SoundShelf, put_keeps}
use Rattle.lives.proofs.Sound.{Sound, was_on, life_sound}

-- there are rows to show, and the current one is the k-th, counted round
record Round (rs : List (List ℕ)) (row k : ℕ) : Type 0 where
  some : 1 ≤ length rs
  at : row ≡ k % length rs

next_round : (rs : List (List ℕ)) (row k : ℕ) → Round rs row k → Round rs (row_after Shown row (length rs)) (k + 1)
next_round rs row k r = record { some = r.some; at = go (ltb (row + 1) (length rs)) refl }
  where
    low : row < length rs
    low = subst (λ x. x < length rs) (sym r.at) (mod-lt k r.some)

    step : (k + 1) % length rs ≡ (row + 1) % length rs
    step =
        ap (λ j. j % length rs) (add-one k) ∙ suc-mod k (length rs) ∙ ap (λ x. suc x % length rs) (sym r.at)
        ∙ ap (λ j. j % length rs) (sym (add-one row))

    go : (b : Bool) → ltb (row + 1) (length rs) ≡ b → cond b (row + 1) 0 ≡ (k + 1) % length rs
    go true e = sym (step ∙ mod-eq_of_lt (ltb-true (row + 1) (length rs) e))
    go false e =
        let h = ltb-false (row + 1) (length rs) e in
        let f : row + 1 ≡ length rs = omega arith in
        sym (step ∙ ap (λ x. x % length rs) f ∙ mod_self (length rs))

step_round : (rs : List (List ℕ)) (row k : ℕ) (s : Showing) → Round rs row k → Round rs (row_after s row (length rs)) (one_more (Some s) k)
step_round rs row k Shown r = next_round rs row k r
step_round rs row k Dark r = r

-- a plan that was put on line
begin_round : (m : Meaning) (ls : List Limit) (shelf : List (Option Timing)) (n : ℕ) (x : List ℕ) → SoundShelf m ls shelf → Found (slot shelf n) x → Round (rows_in (slot shelf n)) 0 0
begin_round m ls shelf n x s f =
    let p = f.plan in
    subst (λ o. Round (rows_in o) 0 0) (sym f.stands) (record { some = (s n p f.stands).some; at = sym (zero-mod (length p.rows)) })

module _ (m : Meaning) (law : Lawful m) (ls : List Limit) where
  after_round :
      (a : Area) (es : List Event) (c : Call) (o : Outcome) → Sound m ls a.book a.street.queues
      → Answers m a c (first_no m ls a c) o
      → (is_on a.book.state ≡ true → Round (rows_on a.book) a.book.row (shown_since es))
      → is_on (book_after m ls c o a.book).state ≡ true
      → Round (rows_on (book_after m ls c o a.book)) (book_after m ls c o a.book).row (shown_since (event c o ∷ es))
  after_round a es c (Err r) s y h e = h e
  after_round a es (shelve k sheet) (Ok t) s y h e =
      let b = a.book in
      let l = s.line e in
      let after = put_keeps m ls b.shelf k sheet (shelve_asked m ls a t k sheet y) b.on l.0 l.1 in
      subst (λ o. Round (rows_in o) b.row (shown_since es)) (l.1 ∙ sym after) (h e)
  after_round a es (take k) (Ok t) s y h e =
      begin_round m ls a.book.shelf k a.street.queues s.shelf (take_asked m ls a t k y)
  after_round a es (advance d) (Ok t) s y h e =
      let b = a.book in
      step_round (rows_on b) b.row (shown_since es) (answer_in t) (h (was_on m ls _ b.row b.envelope b.state e))
  after_round a es (change d k) (Ok t) s y h e =
      begin_round m ls a.book.shelf k a.book.envelope s.shelf (change_asked m ls a t d k y)
  after_round a es (give_back d) (Ok t) s y h e = cc

  life_round : {a : Area} {es : List Event} → Life m ls a es → is_on a.book.state ≡ true → Round (rows_on a.book) a.book.row (shown_since es)
  life_round (fresh k s w) e = cc
  life_round (then {a} {es} {b} {c} {o} life s) e =
      subst (λ x. Round (rows_on x) x.row (shown_since (event c o ∷ es))) (sym s.book)
      (after_round a es c o (life_sound m law ls life) s.answer (life_round life) (subst (λ x. is_on x.state ≡ true) s.book e))

  pub rounds : Rounds m ls
  rounds =
      record {
        row = λ a es life e. (life_round life e).at;
        shows = λ a b es d life s.
            s.street.lamps
            ∙ ap (λ i. get_or (rows_on a.book) i (dark_row m)) (life_round life (advance_asked m ls a (street Shown) d s.answer)).at;
        off = λ a es life e. (life_sound m law ls life).off e;
      }
