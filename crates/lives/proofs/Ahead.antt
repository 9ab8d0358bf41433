-- While every row is shown, the envelope stays at or below the heaviest run of the plan on line, so that cover is never lost.
use Rattle.std.proofs.Common.{◌≡◌, ℕ, ◌+◌, ◌<◌, Bool, true, false, cond, ltb, List, [], ◌∷◌, length, get_or, drop, Some, None, Ok, Err, Option, sym, refl, ◌∙◌, subst, le_trans, le_refl}
use Rattle.std.proofs.lemmas.List.{drop_more, drop_all}
use Rattle.std.proofs.lemmas.Bool.{ltb-true, ltb-false}
use Rattle.model.specs.declared.Answer.TheVariants.{Clear}
use Rattle.model.specs.Model.{Meaning, Lawful, dark_row}
use Rattle.model.specs.State.{Below}
use Rattle.model.proofs.State.{none_above}
use Rattle.street.specs.declared.Showing.TheVariants.{Shown}
use Rattle.plan.specs.declared.limits.Limit.{Limit}
use Rattle.plan.specs.Limits.{Keeps, first_broken}
use Rattle.plan.specs.Check.{Timing, Passes, round_end}
use Rattle.plan.proofs.Keeping.{keeps_below, keeps_unbroken}
use Rattle.plan.proofs.Runs.{start_keeps}
use Rattle.lives.specs.declared.state.Loss.{Loss}
use Rattle.lives.specs.declared.state.State.{State}
use Rattle.lives.specs.declared.state.State.TheVariants.{OffLine, Covered, Lost}
use Rattle.lives.specs.Area.{Book, Area, slot, rows_in, start_in, row_after, cover_after, state_after, envelope_in, stepped}
use Rattle.lives.specs.Calls.{Call, shelve, take, advance, change, give_back, Outcome, first_no, Answers, book_after}
use Rattle.lives.specs.Lives.{Event, event, Life, fresh, then, AllShown}
use Rattle.lives.proofs.Asked.{shelve_asked, take_asked, change_asked}
use Rattle.lives.proofs.Shelf.{SoundPlan, put_keeps}
use Rattle.lives.proofs.Sound.{Sound, life_sound}

-- some state at or above the envelope from which the rest of the plan passes
record Heavier (m : Meaning) (ls : List Limit) (p : Timing) (row : ℕ) (envelope : List ℕ) : Type 0 where
  heavy : List ℕ
  above : Below envelope heavy
  row_fits : row < length p.rows
  passes : Passes m ls heavy (drop row p.rows)
  ends : Below (round_end m heavy (drop row p.rows)) p.start

-- what an area with this state, plan on line, row and envelope has ahead
record Ahead (m : Meaning) (ls : List Limit) (st : State) (on : Option Timing) (row : ℕ) (envelope : List ℕ) : Type 0 where
  not_lost : (loss : Loss) → st ≡ Lost loss → ⊥
  run : st ≡ Covered → (p : Timing) × (on ≡ Some p) × Heavier m ls p row envelope

abbrev BookAhead : Meaning → List Limit → Book → Type 0
BookAhead m ls b = Ahead m ls b.state (slot b.shelf b.on) b.row b.envelope

off_ahead : (m : Meaning) (ls : List Limit) (on : Option Timing) (row : ℕ) (x : List ℕ) → Ahead m ls OffLine on row x
off_ahead m ls on row x = record { not_lost = λ l e. cc; run = λ e. cc }

-- at row 0 a plan is ahead of every state at or below its start
begin_heavier : (m : Meaning) (ls : List Limit) (p : Timing) (x : List ℕ) → SoundPlan m ls p → Below x p.start → Heavier m ls p 0 x
begin_heavier m ls p x s u = record { heavy = p.start; above = u; row_fits = s.some; passes = s.passes.0; ends = s.passes.1 }

-- the state from which rows pass keeps the limits, if the start does
keeps_ahead :
    (m : Meaning) (ls : List Limit) (start x : List ℕ) (rs : List (List ℕ)) → Keeps ls start → Passes m ls x rs
    → Below (round_end m x rs) start → Keeps ls x
keeps_ahead m ls start x [] k p e = keeps_below ls x start e k
keeps_ahead m ls start x (r ∷ rs) k p e = p.0

module _ (m : Meaning) (law : Lawful m) (ls : List Limit) (p : Timing) (sound : SoundPlan m ls p) (i : ℕ) (x : List ℕ) (h : Heavier m ls p i x) where
  abbrev row : List ℕ
  row = get_or p.rows i (dark_row m)

  -- the heavier state after the row
  abbrev heavy_after : List ℕ
  heavy_after = m.next row h.heavy m.loads

  opened : drop i p.rows ≡ row ∷ drop (i + 1) p.rows
  opened = drop_more p.rows i (dark_row m) h.row_fits

  here : Keeps ls h.heavy × (m.answer row h.heavy m.loads ≡ Clear) × Passes m ls heavy_after (drop (i + 1) p.rows)
  here = subst (λ rs. Passes m ls h.heavy rs) opened h.passes

  ends_after : Below (round_end m heavy_after (drop (i + 1) p.rows)) p.start
  ends_after = subst (λ rs. Below (round_end m h.heavy rs) p.start) opened h.ends

  stays_clear : m.answer row x m.loads ≡ Clear
  stays_clear = law.order_clear row x h.heavy m.loads m.loads h.above (λ k. le_refl _) here.1

  stays_below : Below (m.next row x m.loads) heavy_after
  stays_below = law.order_next row x h.heavy m.loads m.loads h.above (λ k. le_refl _) here.1

  stays_unbroken : first_broken ls (m.next row x m.loads) ≡ None
  stays_unbroken =
      let start = start_keeps m law ls p.start p.rows sound.some sound.passes.0 in
      let keeps = keeps_ahead m ls p.start heavy_after (drop (i + 1) p.rows) start here.2 ends_after in
      keeps_unbroken 1 ls (m.next row x m.loads) (keeps_below ls (m.next row x m.loads) heavy_after stays_below keeps)

  heavier_after : (b : Bool) → ltb (i + 1) (length p.rows) ≡ b → Heavier m ls p (cond b (i + 1) 0) (m.next row x m.loads)
  heavier_after true e =
      record {
        heavy = heavy_after;
        above = stays_below;
        row_fits = ltb-true (i + 1) (length p.rows) e;
        passes = here.2;
        ends = ends_after;
      }
  heavier_after false e =
      let none : drop (i + 1) p.rows ≡ [] = drop_all (i + 1) p.rows (ltb-false (i + 1) (length p.rows) e) in
      let back : Below heavy_after p.start = subst (λ rs. Below (round_end m heavy_after rs) p.start) none ends_after in
      begin_heavier m ls p (m.next row x m.loads) sound (λ k. le_trans (stays_below k) (back k))

  covered_after : cover_after i (m.answer row x m.loads) (first_broken ls (m.next row x m.loads)) ≡ Covered
  covered_after = rw (stays_clear, stays_unbroken)

  shown_ahead :
      (st : State) → st ≡ cover_after i (m.answer row x m.loads) (first_broken ls (m.next row x m.loads))
      → Ahead m ls st (Some p) (row_after Shown i (length p.rows)) (envelope_in m st (m.next row x m.loads))
  shown_ahead st e =
      subst (λ s. Ahead m ls s (Some p) (row_after Shown i (length p.rows)) (envelope_in m s (m.next row x m.loads))) (sym (e ∙ covered_after))
      (record { not_lost = λ l e. cc; run = λ c. (p, refl, heavier_after (ltb (i + 1) (length p.rows)) refl) })

module _ (m : Meaning) (law : Lawful m) (ls : List Limit) where
  -- a row of the plan on line was shown
  step_ahead :
      (st : State) (on : Option Timing) (i : ℕ) (x : List ℕ) → ((p : Timing) → on ≡ Some p → SoundPlan m ls p) → Ahead m ls st on i x
      → Ahead m ls (state_after m ls (get_or (rows_in on) i (dark_row m)) i x st) on (row_after Shown i (length (rows_in on)))
      (envelope_in m (state_after m ls (get_or (rows_in on) i (dark_row m)) i x st) (m.next (get_or (rows_in on) i (dark_row m)) x m.loads))
  step_ahead OffLine on i x s h = off_ahead m ls _ _ _
  step_ahead Covered on i x s h =
      let r = h.run refl in
      let p = r.0 in
      subst
      (λ o. Ahead m ls (state_after m ls (get_or (rows_in o) i (dark_row m)) i x Covered) o (row_after Shown i (length (rows_in o)))
      (envelope_in m (state_after m ls (get_or (rows_in o) i (dark_row m)) i x Covered) (m.next (get_or (rows_in o) i (dark_row m)) x m.loads)))
      (sym r.1) (shown_ahead m law ls p (s p r.1) i x r.2 _ refl)
  step_ahead (Lost loss) on i x s h = absurd (h.not_lost loss refl)

  after_ahead :
      (a : Area) (es : List Event) (c : Call) (o : Outcome) → Sound m ls a.book a.street.queues
      → Answers m a c (first_no m ls a c) o → (AllShown es → BookAhead m ls a.book)
      → AllShown (event c o ∷ es) → BookAhead m ls (book_after m ls c o a.book)
  after_ahead a es c (Err r) s y h n = h n.1
  after_ahead a es (shelve k sheet) (Ok t) s y h n =
      let g = h n.1 in
      record {
        not_lost = g.not_lost;
        run = λ e.
            let r = g.run e in
            (r.0, put_keeps m ls a.book.shelf k sheet (shelve_asked m ls a t k sheet y) a.book.on r.0 r.1, r.2);
      }
  after_ahead a es (take k) (Ok t) s y h n =
      let f = take_asked m ls a t k y in
      let p = f.plan in
      record {
        not_lost = λ l e. cc;
        run = λ e. (
          p,
          f.stands,
          subst (λ o. Heavier m ls p 0 (start_in o)) (sym f.stands)
              (begin_heavier m ls p p.start (s.shelf k p f.stands) (λ j. le_refl _)),
        );
      }
  after_ahead a es (advance d) (Ok t) s y h n =
      let b = a.book in
      subst (λ v. BookAhead m ls (stepped m ls v b)) (sym n.0)
      (step_ahead b.state (slot b.shelf b.on) b.row b.envelope (s.shelf b.on) (h n.1))
  after_ahead a es (change d k) (Ok t) s y h n =
      let f = change_asked m ls a t d k y in
      let p = f.plan in
      record {
        not_lost = (h n.1).not_lost;
        run = λ e. (
          p,
          f.stands,
          begin_heavier m ls p a.book.envelope (s.shelf k p f.stands)
              (none_above a.book.envelope p.start (s.cover e).whole f.low),
        );
      }
  after_ahead a es (give_back d) (Ok t) s y h n = off_ahead m ls _ _ _

  life_ahead : {a : Area} {es : List Event} → Life m ls a es → AllShown es → BookAhead m ls a.book
  life_ahead (fresh k s w) n = off_ahead m ls _ _ _
  life_ahead (then {a} {es} {b} {c} {o} life s) n =
      subst (λ x. BookAhead m ls x) (sym s.book)
      (after_ahead a es c o (life_sound m law ls life) s.answer (life_ahead life) n)

  pub never_lost : {a : Area} {es : List Event} → Life m ls a es → AllShown es → (loss : Loss) → a.book.state ≡ Lost loss → ⊥
  never_lost life n = (life_ahead life n).not_lost
