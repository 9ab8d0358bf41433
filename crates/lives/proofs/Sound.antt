-- What every area of a life has: checked plans on its shelf, a plan on line, and while it is covered a street within its envelope.
use Rattle.std.proofs.Common.{◌≡◌, ℕ, true, List, length, Some, None, Ok, Err, Option, sym, refl, subst}
use Rattle.model.specs.declared.Answer.{Answer}
use Rattle.model.specs.declared.Answer.TheVariants.{Clear, Held}
use Rattle.model.specs.Model.{Meaning, Lawful, Reaches}
use Rattle.model.specs.State.{Below}
use Rattle.model.proofs.State.{none_above}
use Rattle.street.specs.declared.Showing.{Showing}
use Rattle.street.specs.Street.{Seen, Bounded, Showed, lamps_after}
use Rattle.plan.specs.declared.limits.Limit.{Limit}
use Rattle.plan.specs.Limits.{Keeps, first_broken}
use Rattle.plan.specs.Check.{Timing}
use Rattle.plan.proofs.Keeping.{unbroken_keeps}
use Rattle.plan.proofs.Runs.{start_keeps}
use Rattle.lives.specs.declared.state.State.{State}
use Rattle.lives.specs.declared.state.State.TheVariants.{OffLine, Covered, Lost}
use Rattle.lives.specs.Area.{Book, Area, slot, start_in, current_row, fresh_book, cover_after, state_after, envelope_in, stepped}
use Rattle.lives.specs.Calls.{Call, shelve, take, advance, change, give_back, Tale, Outcome, is_on, first_no, Answers, done_to, book_after, step_in, Moves, Calls}
use Rattle.lives.specs.Lives.{Event, Life, fresh, then}
use Rattle.lives.proofs.Asked.{Found, shelve_asked, take_asked, advance_asked, change_asked}
use Rattle.lives.proofs.Shelf.{SoundShelf, bare_sound, put_sound, put_keeps}

-- a covered area's envelope and queues
pub record Covering (ls : List Limit) (envelope queues : List ℕ) : Type 0 where
  pub whole : length envelope ≡ 64
  pub below : Below queues envelope
  pub keeps : Keeps ls envelope

pub record Sound (m : Meaning) (ls : List Limit) (b : Book) (queues : List ℕ) : Type 0 where
  pub shelf : SoundShelf m ls b.shelf
  pub line : is_on b.state ≡ true → (p : Timing) × (slot b.shelf b.on ≡ Some p)
  pub whole : length queues ≡ 64
  pub cover : b.state ≡ Covered → Covering ls b.envelope queues
  pub tops : (b.state ≡ Covered → ⊥) → b.envelope ≡ m.tops
  pub off : b.state ≡ OffLine → b.row ≡ 0

-- A step.

-- An area that is covered after a step was covered before it, the lamps' row was clear for the envelope,
-- and the next state keeps the limits.
pub record Kept (m : Meaning) (ls : List Limit) (lamps x : List ℕ) (st : State) : Type 0 where
  pub before : st ≡ Covered
  pub is_clear : m.answer lamps x m.loads ≡ Clear
  pub unbroken : first_broken ls (m.next lamps x m.loads) ≡ None

after_covered : (row : ℕ) (a : Answer) (l : Option ℕ) → cover_after row a l ≡ Covered → (a ≡ Clear) × (l ≡ None)
after_covered row (Held p c) l e = cc
after_covered row Clear (Some l) e = cc
after_covered row Clear None e = (refl, refl)

pub kept : (m : Meaning) (ls : List Limit) (lamps : List ℕ) (row : ℕ) (x : List ℕ) (st : State) → state_after m ls lamps row x st ≡ Covered → Kept m ls lamps x st
kept m ls lamps row x OffLine e = cc
kept m ls lamps row x Covered e =
    let h = after_covered row (m.answer lamps x m.loads) (first_broken ls (m.next lamps x m.loads)) e in
    record { before = refl; is_clear = h.0; unbroken = h.1 }
kept m ls lamps row x (Lost loss) e = cc

-- an area is on line after a step exactly if it was before it
pub was_on : (m : Meaning) (ls : List Limit) (lamps : List ℕ) (row : ℕ) (x : List ℕ) (st : State) → is_on (state_after m ls lamps row x st) ≡ true → is_on st ≡ true
was_on m ls lamps row x OffLine e = e
was_on m ls lamps row x _ e = refl

after_on : {P : Type 0} (row : ℕ) (a : Answer) (l : Option ℕ) → cover_after row a l ≡ OffLine → P
after_on row (Held p c) l e = cc
after_on row Clear (Some l) e = cc
after_on row Clear None e = cc

stays_on : {P : Type 0} (m : Meaning) (ls : List Limit) (lamps : List ℕ) (row : ℕ) (x : List ℕ) (st : State) → is_on st ≡ true → state_after m ls lamps row x st ≡ OffLine → P
stays_on m ls lamps row x OffLine h e = cc
stays_on m ls lamps row x Covered h e = after_on row (m.answer lamps x m.loads) (first_broken ls (m.next lamps x m.loads)) e
stays_on m ls lamps row x (Lost loss) h e = cc

bare_envelope : (m : Meaning) (st : State) (x : List ℕ) → (st ≡ Covered → ⊥) → envelope_in m st x ≡ m.tops
bare_envelope m Covered x h = absurd (h refl)
bare_envelope m _ x h = refl

-- the queues are reached under the lamps after the row
pub reached :
    (m : Meaning) (row : List ℕ) (before after : Seen) (s : Showing) → Showed m row before s after
    → Reaches m (lamps_after m s row) before.queues after.arrivals after.queues
reached m row before after s h = subst (λ l. Reaches m l before.queues after.arrivals after.queues) h.lamps h.queues

-- a call that was a step moved the book by the street's answer
pub book_stepped :
    (m : Meaning) (ls : List Limit) (b : Book) (c : Call) (o : Outcome) (s : Showing)
    → step_in c o ≡ Some s → book_after m ls c o b ≡ stepped m ls s b
book_stepped m ls b c (Err r) s e = cc
book_stepped m ls b (advance d) (Ok t) s e = cc
book_stepped m ls b _ (Ok t) s e = cc

module _ (m : Meaning) (law : Lawful m) (ls : List Limit) where
  -- whatever is reached with less is at or below the next state with more, if the row is clear for that
  reached_below :
      (r x y v w z : List ℕ) → Below x y → Below v w → m.answer r y w ≡ Clear → Reaches m r x v z → Below z (m.next r y w)
  reached_below r x y v w z p q c e = subst (λ u. Below u (m.next r y w)) (sym e) (law.order_next r x y v w p q c)

  fresh_sound : (s : Seen) → Bounded m s → Sound m ls (fresh_book m) s.queues
  fresh_sound s w =
      record {
        shelf = bare_sound m ls;
        line = λ e. cc;
        whole = w.queues.size;
        cover = λ e. cc;
        tops = λ e. refl;
        off = λ e. refl;
      }

  -- a step keeps the street below the envelope
  step_covering :
      (b : Book) (before after : Seen) (s : Showing) → Sound m ls b before.queues → Showed m (current_row m b) before s after
      → (stepped m ls s b).state ≡ Covered → Covering ls (stepped m ls s b).envelope after.queues
  step_covering b before after s sound h e =
      let lamps = lamps_after m s (current_row m b) in
      let k = kept m ls lamps b.row b.envelope b.state e in
      let c = sound.cover k.before in
      let x = m.next lamps b.envelope m.loads in
      subst (λ st. Covering ls (envelope_in m st x) after.queues) (sym e)
      (record {
        whole = law.whole_next lamps b.envelope m.loads;
        below = reached_below lamps before.queues b.envelope after.arrivals m.loads after.queues
            c.below h.arrivals.below k.is_clear (reached m (current_row m b) before after s h);
        keeps = unbroken_keeps 1 ls x k.unbroken;
      })

  step_sound :
      (b : Book) (before after : Seen) (s : Showing) → is_on b.state ≡ true → Sound m ls b before.queues
      → Showed m (current_row m b) before s after → Sound m ls (stepped m ls s b) after.queues
  step_sound b before after s on sound h =
      let lamps = lamps_after m s (current_row m b) in
      record {
        shelf = sound.shelf;
        line = λ e. sound.line on;
        whole = subst (λ x. length x ≡ 64) (sym h.queues) (law.whole_next after.lamps before.queues after.arrivals);
        cover = step_covering b before after s sound h;
        tops = bare_envelope m (stepped m ls s b).state (m.next lamps b.envelope m.loads);
        off = λ e. stays_on m ls lamps b.row b.envelope b.state on e;
      }

  -- the start of a plan that was found for the queues covers them
  take_covering :
      (a : Area) (n : ℕ) → Sound m ls a.book a.street.queues → Found (slot a.book.shelf n) a.street.queues
      → Covering ls (start_in (slot a.book.shelf n)) a.street.queues
  take_covering a n sound f =
      let p = f.plan in
      let q = sound.shelf n p f.stands in
      subst (λ o. Covering ls (start_in o) a.street.queues) (sym f.stands)
      (record {
        whole = q.whole;
        below = none_above a.street.queues p.start sound.whole f.low;
        keeps = start_keeps m law ls p.start p.rows q.some q.passes.0;
      })

  -- an accepted call that is no step
  done_sound :
      (a : Area) (c : Call) (t : Tale) → Sound m ls a.book a.street.queues → Answers m a c (first_no m ls a c) (Ok t)
      → step_in c (Ok t) ≡ None → Sound m ls (done_to m ls c t a.book) a.street.queues
  done_sound a (shelve n sheet) t sound y z =
      let shelf = a.book.shelf in
      let h = shelve_asked m ls a t n sheet y in
      record {
        shelf = put_sound m ls shelf n sheet h law sound.shelf;
        line = λ e. let l = sound.line e in (l.0, put_keeps m ls shelf n sheet h a.book.on l.0 l.1);
        whole = sound.whole;
        cover = sound.cover;
        tops = sound.tops;
        off = sound.off;
      }
  done_sound a (take n) t sound y z =
      let f = take_asked m ls a t n y in
      record {
        shelf = sound.shelf;
        line = λ e. (f.plan, f.stands);
        whole = sound.whole;
        cover = λ e. take_covering a n sound f;
        tops = λ e. absurd (e refl);
        off = λ e. cc;
      }
  done_sound a (advance d) t sound y z = cc
  done_sound a (change d n) t sound y z =
      let f = change_asked m ls a t d n y in
      record {
        shelf = sound.shelf;
        line = λ e. (f.plan, f.stands);
        whole = sound.whole;
        cover = sound.cover;
        tops = sound.tops;
        off = λ e. refl;
      }
  done_sound a (give_back d) t sound y z =
      record {
        shelf = sound.shelf;
        line = λ e. cc;
        whole = sound.whole;
        cover = λ e. cc;
        tops = λ e. refl;
        off = λ e. refl;
      }

  -- a call that was a step is an accepted advance
  step_on : (a : Area) (c : Call) (t : Tale) (s : Showing) → Answers m a c (first_no m ls a c) (Ok t) → step_in c (Ok t) ≡ Some s → is_on a.book.state ≡ true
  step_on a (advance d) t s y e = advance_asked m ls a t d y
  step_on a _ t s y e = cc

  -- an accepted call, by whether it was a step
  accepted_sound :
      (a b : Area) (c : Call) (t : Tale) (k : Option Showing) → step_in c (Ok t) ≡ k
      → Sound m ls a.book a.street.queues → Answers m a c (first_no m ls a c) (Ok t)
      → Moves m (current_row m a.book) k a.street b.street
      → Sound m ls (done_to m ls c t a.book) b.street.queues
  accepted_sound a b c t None e h y v = subst (λ x. Sound m ls (done_to m ls c t a.book) x.queues) (sym v) (done_sound a c t h y e)
  accepted_sound a b c t (Some s) e h y v =
      subst (λ x. Sound m ls x b.street.queues) (sym (book_stepped m ls a.book c (Ok t) s e))
      (step_sound a.book a.street b.street s (step_on a c t s y e) h v)

  after_sound :
      (a b : Area) (c : Call) (o : Outcome) → Sound m ls a.book a.street.queues → Answers m a c (first_no m ls a c) o
      → Moves m (current_row m a.book) (step_in c o) a.street b.street
      → Sound m ls (book_after m ls c o a.book) b.street.queues
  after_sound a b c (Err r) h y v = subst (λ x. Sound m ls a.book x.queues) (sym v) h
  after_sound a b c (Ok t) h y v = accepted_sound a b c t (step_in c (Ok t)) refl h y v

  pub call_sound :
      (a b : Area) (c : Call) (o : Outcome) → Calls m ls a c o b
      → Sound m ls a.book a.street.queues → Sound m ls b.book b.street.queues
  call_sound a b c o s h =
      subst (λ x. Sound m ls x b.street.queues) (sym s.book) (after_sound a b c o h s.answer s.street)

  pub life_sound : {a : Area} {es : List Event} → Life m ls a es → Sound m ls a.book a.street.queues
  life_sound (fresh n s w) = fresh_sound s w
  life_sound (then {a} {es} {b} {c} {o} life s) = call_sound a b c o s (life_sound life)

  -- a step that leaves the area covered was clear for the street too
  pub step_clear :
      (b : Book) (before after : Seen) (s : Showing) → Sound m ls b before.queues → Showed m (current_row m b) before s after
      → (stepped m ls s b).state ≡ Covered → m.answer (lamps_after m s (current_row m b)) before.queues after.arrivals ≡ Clear
  step_clear b before after s sound h e =
      let lamps = lamps_after m s (current_row m b) in
      let k = kept m ls lamps b.row b.envelope b.state e in
      let c = sound.cover k.before in
      law.order_clear lamps before.queues b.envelope after.arrivals m.loads c.below h.arrivals.below k.is_clear
