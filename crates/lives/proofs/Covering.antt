-- The cover of an area, and the rule by which it stays.
use Rattle.std.proofs.Common.{◌≡◌, ℕ, List, Ok, sym, ap, ◌∙◌, subst}
use Rattle.model.specs.declared.Answer.TheVariants.{Clear}
use Rattle.model.specs.Model.{Meaning, Lawful}
use Rattle.street.specs.Street.{lamps_after}
use Rattle.plan.specs.declared.limits.Limit.{Limit}
use Rattle.plan.specs.Limits.{Keeps}
use Rattle.plan.proofs.Keeping.{keeps_below, keeps_unbroken, unbroken_keeps}
use Rattle.lives.specs.declared.state.State.{State}
use Rattle.lives.specs.declared.state.State.TheVariants.{Covered}
use Rattle.lives.specs.Area.{Area, current_row, state_after, envelope_in}
use Rattle.lives.specs.Calls.{advance, Tale, answer_in, Calls}
use Rattle.lives.specs.Promises.{Cover, Stays, CoverRule}
use Rattle.lives.proofs.Sound.{kept, life_sound, step_clear}
use Rattle.lives.proofs.Ahead.{never_lost}

stays_if :
    (m : Meaning) (ls : List Limit) (lamps : List ℕ) (row : ℕ) (x : List ℕ) (st : State) → st ≡ Covered → m.answer lamps x m.loads ≡ Clear
    → Keeps ls (m.next lamps x m.loads) → state_after m ls lamps row x st ≡ Covered
stays_if m ls lamps row x st e c k =
    let u = keeps_unbroken 1 ls (m.next lamps x m.loads) k in
    subst (λ s. state_after m ls lamps row x s ≡ Covered) (sym e) (rw (c, u))

-- the rule at one step
stays : (m : Meaning) (ls : List Limit) (a b : Area) (d : ℕ) (t : Tale) → a.book.state ≡ Covered → Calls m ls a (advance d) (Ok t) b → Stays m ls a b
stays m ls a b d t covered s =
    let lamps = lamps_after m (answer_in t) (current_row m a.book) in
    let row = a.book.row in
    let x = a.book.envelope in
    let w = m.loads in
    let same = s.street.lamps in
    let state : b.book.state ≡ state_after m ls lamps row x a.book.state = ap (λ k. k.state) s.book in
    let envelope : b.book.envelope ≡ envelope_in m (state_after m ls lamps row x a.book.state) (m.next lamps x w) = ap (λ k. k.envelope) s.book in
    record {
      exactly = (
        (λ e. let k = kept m ls lamps row x a.book.state (sym state ∙ e) in
            rw same (k.is_clear, unbroken_keeps 1 ls (m.next lamps x w) k.unbroken)),
        (λ h. let g : (m.answer lamps x w ≡ Clear) × Keeps ls (m.next lamps x w) = rw same at h in
            state ∙ stays_if m ls lamps row x a.book.state covered g.0 g.1),
      );
      envelope = λ e.
          let f : envelope_in m (state_after m ls lamps row x a.book.state) (m.next lamps x w) ≡ m.next lamps x w =
          ap (λ st. envelope_in m st (m.next lamps x w)) (sym state ∙ e) in
          envelope ∙ f ∙ ap (λ l. m.next l x w) (sym same);
    }

module _ (m : Meaning) (law : Lawful m) (ls : List Limit) where
  pub cover : Cover m ls
  cover =
      record {
        covers = λ a es life e.
            let c = (life_sound m law ls life).cover e in
            record { below = c.below; keeps = keeps_below ls a.street.queues a.book.envelope c.below c.keeps };
        not_held = λ a b es d t life s e.
            subst (λ l. m.answer l a.street.queues b.street.arrivals ≡ Clear) (sym s.street.lamps)
            (step_clear m law ls a.book a.street b.street (answer_in t) (life_sound m law ls life) s.street
            (sym (ap (λ x. x.state) s.book) ∙ e));
        not_lost = λ a es life n loss e. never_lost m law ls life n loss e;
      }

  pub cover_rule : CoverRule m ls
  cover_rule =
      record {
        stays = λ a b es d t life covered s. stays m ls a b d t covered s;
        tops = λ a es life e. (life_sound m law ls life).tops e;
      }
