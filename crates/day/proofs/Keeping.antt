-- A change of plan keeps the duty in hand.
use Rattle.std.proofs.Common.{◌≡◌, ℕ, List, Some, None, Ok, Err, Option, sym, refl, ap, ◌∙◌, subst, arith}
use Rattle.refusal.specs.declared.Refusal.{Refusal}
use Rattle.model.specs.Model.{Meaning}
use Rattle.plan.specs.declared.limits.Limit.{Limit}
use Rattle.lives.specs.Area.{Area}
use Rattle.lives.specs.Calls.{change, Outcome, is_on, Answers, Calls, book_after, first_no}
use Rattle.day.specs.declared.call.DayCall.TheVariants.{Change}
use Rattle.day.specs.Running.{InHand, hand_after}

module _ (m : Meaning) (ls : List Limit) (a b : Area) (d n : ℕ) where
  same_state : (o : Outcome) → (book_after m ls (change d n) o a.book).state ≡ a.book.state
  same_state (Ok t) = refl
  same_state (Err r) = refl

  same_hand : (o : Outcome) (q : Option Refusal) → Answers m a (change d n) q o → hand_after (Change n) o (Some d) ≡ Some d
  same_hand (Err r) q e = refl
  same_hand (Ok t) (Some r) e = absurd (let z : ◌≡◌ {A = ℕ} 0 1 = cc in omega arith)
  same_hand (Ok t) None e = ap (λ x. hand_after (Change n) (Ok x) (Some d)) e

  pub change_safe : (o : Outcome) (k : Option ℕ) → Calls m ls a (change d n) o b → k ≡ hand_after (Change n) o (Some d) → InHand a (Some d) → InHand b k
  change_safe o k c e i =
      subst (InHand b) (sym (e ∙ same_hand o (first_no m ls a (change d n)) c.answer))
      (ap is_on (ap (λ x. x.state) c.book ∙ same_state o) ∙ i.0, i.1 ∙ sym c.number)
