-- Two spells side by side.
use Rattle.std.proofs.Common.{◌≡◌, ℕ, false, List, Some, None, Ok, Err, Option, sym, refl, ap, ◌∙◌, subst}
use Rattle.model.specs.Model.{Meaning, Lawful}
use Rattle.model.specs.State.{Below}
use Rattle.street.specs.declared.Showing.{Showing}
use Rattle.street.specs.Street.{Seen, lamps_after}
use Rattle.plan.specs.declared.limits.Limit.{Limit}
use Rattle.lives.specs.declared.state.State.TheVariants.{Covered}
use Rattle.lives.specs.Area.{Book, Area, current_row, stepped}
use Rattle.lives.specs.Calls.{Call, take, advance, Tale, duty, street, Outcome, answer_in, done_to, book_after, step_in, Moves, Calls}
use Rattle.lives.specs.Lives.{begins, unnumbered, tale_unnumbered, outcome_unnumbered, ReceivesNoMore, Abreast, at_take, both_call}
use Rattle.lives.specs.Promises.{SpellsCompare}
use Rattle.lives.proofs.Sound.{Sound, kept, reached, book_stepped, call_sound, life_sound, step_clear}

-- Duty numbers change nothing but who is let in.

answer_unnumbered : (t : Tale) → answer_in (tale_unnumbered t) ≡ answer_in t
answer_unnumbered (street s) = refl
answer_unnumbered _ = refl

book_unnumbered :
    (m : Meaning) (ls : List Limit) (c : Call) (o : Outcome) (b : Book)
    → book_after m ls (unnumbered c) (outcome_unnumbered o) b ≡ book_after m ls c o b
book_unnumbered m ls c (Err r) b = refl
book_unnumbered m ls (advance d) (Ok t) b = ap (λ s. stepped m ls s b) (answer_unnumbered t)
book_unnumbered m ls _ (Ok t) b = refl

step_unnumbered : (c : Call) (o : Outcome) → step_in (unnumbered c) (outcome_unnumbered o) ≡ step_in c o
step_unnumbered c (Err r) = refl
step_unnumbered (advance d) (Ok t) = ap {B = Option Showing} Some (answer_unnumbered t)
step_unnumbered _ (Ok t) = refl

book_alike :
    (m : Meaning) (ls : List Limit) (c e : Call) (o q : Outcome) (b v : Book)
    → unnumbered c ≡ unnumbered e → outcome_unnumbered o ≡ outcome_unnumbered q → b ≡ v
    → book_after m ls c o b ≡ book_after m ls e q v
book_alike m ls c e o q b v p r s =
    let x = book_unnumbered m ls c o b in
    let y = book_unnumbered m ls e q v in
    let z : book_after m ls (unnumbered c) (outcome_unnumbered o) b ≡ book_after m ls (unnumbered e) (outcome_unnumbered q) v = rw (p, r, s) in
    sym x ∙ z ∙ y

step_alike :
    (c e : Call) (o q : Outcome) → unnumbered c ≡ unnumbered e → outcome_unnumbered o ≡ outcome_unnumbered q → step_in c o ≡ step_in e q
step_alike c e o q p r =
    let z : step_in (unnumbered c) (outcome_unnumbered o) ≡ step_in (unnumbered e) (outcome_unnumbered q) = rw (p, r) in
    sym (step_unnumbered c o) ∙ z ∙ step_unnumbered e q

-- after a take the book follows from the shelf
take_alike :
    (m : Meaning) (ls : List Limit) (n d e : ℕ) (b v : Book) → b.shelf ≡ v.shelf
    → done_to m ls (take n) (duty d) b ≡ done_to m ls (take n) (duty e) v
take_alike m ls n d e b v same = rw same

-- within a spell an area that is covered after a call was covered before it
was_covered :
    (m : Meaning) (ls : List Limit) (c : Call) (o : Outcome) (b : Book)
    → begins c o ≡ false → (book_after m ls c o b).state ≡ Covered → b.state ≡ Covered
was_covered m ls c (Err r) b n e = e
was_covered m ls (advance d) (Ok t) b n e = (kept m ls (lamps_after m (answer_in t) (current_row m b)) b.row b.envelope b.state e).before
was_covered m ls _ (Ok t) b n e = cc

module _ (m : Meaning) (law : Lawful m) (ls : List Limit) where
  -- one step of both streets from the same book
  streets_step :
      (b : Book) (k : Option Showing) (x x' y y' : Seen) → Sound m ls b y.queues
      → Moves m (current_row m b) k x x' → Moves m (current_row m b) k y y' → ReceivesNoMore k x' y'
      → ((s : Showing) → k ≡ Some s → (stepped m ls s b).state ≡ Covered)
      → Below x.queues y.queues → Below x'.queues y'.queues
  streets_step b None x x' y y' sy mx my r st h =
      subst (λ u. Below u.queues y'.queues) (sym mx) (subst (λ u. Below x.queues u.queues) (sym my) h)
  streets_step b (Some s) x x' y y' sy mx my r st h =
      let lamps = lamps_after m s (current_row m b) in
      let p = reached m (current_row m b) x x' s mx in
      let q = reached m (current_row m b) y y' s my in
      let c = step_clear m law ls b y y' s sy my (st s refl) in
      let z = law.order_next lamps x.queues y.queues x'.arrivals y'.arrivals h r c in
      subst (λ u. Below u y'.queues) (sym p) (subst (λ u. Below (m.next lamps x.queues x'.arrivals) u) (sym q) z)

  -- what two areas side by side have
  record Side (a u : Area) : Type 0 where
    left : Sound m ls a.book a.street.queues
    right : Sound m ls u.book u.street.queues
    alike : a.book ≡ u.book
    ordered : a.book.state ≡ Covered → Below a.street.queues u.street.queues

  side_call :
      (b v d w : Area) (c e : Call) (o q : Outcome) → Side b v → Calls m ls b c o d → Calls m ls v e q w
      → unnumbered c ≡ unnumbered e → outcome_unnumbered o ≡ outcome_unnumbered q → begins c o ≡ false
      → ReceivesNoMore (step_in c o) d.street w.street → Side d w
  side_call b v d w c e o q h s t p r n less =
      let k = step_in c o in
      let same = step_alike c e o q p r in
      let moved : Moves m (current_row m b.book) k v.street w.street = rw (h.alike, same) t.street in
      record {
        left = call_sound m law ls b d c o s h.left;
        right = call_sound m law ls v w e q t h.right;
        alike = s.book ∙ book_alike m ls c e o q b.book v.book p r h.alike ∙ sym t.book;
        ordered = λ x.
            let after : (book_after m ls c o b.book).state ≡ Covered = sym (ap (λ z. z.state) s.book) ∙ x in
            streets_step b.book k b.street d.street v.street w.street
            (subst (λ z. Sound m ls z v.street.queues) (sym h.alike) h.right)
            s.street moved less
            (λ y f. sym (ap (λ z. z.state) (book_stepped m ls b.book c o y f)) ∙ after)
            (h.ordered (was_covered m ls c o b.book n after));
      }

  abreast_side : {a u b v : Area} → Abreast m ls a u b v → Side a u → Side b v
  abreast_side at_take h = h
  abreast_side (both_call {b} {v} d w c e o q run s t p r n less) h =
      side_call b v d w c e o q (abreast_side run h) s t p r n less

  pub spells_compare : SpellsCompare m ls
  spells_compare a u es fs life other same h n d e b v s t c w run x y =
      (abreast_side run
      (record {
        left = call_sound m law ls a b (take n) (Ok (duty d)) s (life_sound m law ls life);
        right = call_sound m law ls u v (take n) (Ok (duty e)) t (life_sound m law ls other);
        alike = s.book ∙ take_alike m ls n d e a.book u.book same ∙ sym t.book;
        ordered = λ z. subst (λ k. Below k.queues v.street.queues) (sym s.street)
            (subst (λ k. Below a.street.queues k.queues) (sym t.street) h);
      })).ordered x
