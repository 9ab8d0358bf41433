-- Calls whose questions were answered one after the other.
use Rattle.std.proofs.Common.{◌≡◌, ℕ, pred, List, length, set, Some, None, Ok, Option, sym, refl, ◌∙◌, subst}
use Rattle.refusal.specs.declared.Refusal.{Refusal}
use Rattle.refusal.specs.Questions.{then}
use Rattle.refusal.proofs.Turning.{then_parts}
use Rattle.model.specs.Model.{Meaning}
use Rattle.plan.specs.declared.limits.Limit.{Limit}
use Rattle.plan.specs.Check.{Timing, checked}
use Rattle.plan_sheet.specs.Accepts.{reads, accepted_timing}
use Rattle.lives.specs.Area.{Area}
use Rattle.lives.specs.Calls.{shelve, rows, else_ask, ask_number, ask_empty, ask_sheet, Answers, Calls}

-- a shelve under an empty number
module _ (m : Meaning) (ls : List Limit) (a : Area) (n : ℕ) (sheet : List ℕ) where
  first_two : (q r later : Option Refusal) → None ≡ else_ask q r → else_ask q (else_ask r later) ≡ later
  first_two None None later e = refl
  first_two None (Some x) later e = cc
  first_two (Some x) r later e = cc

  -- with the count k of its rows, and the shelf as it then is
  pub shelved :
      (t : Timing) (k : ℕ) (shelf : List (Option Timing)) → None ≡ else_ask (ask_number n) (ask_empty a.book.shelf n)
      → Ok t ≡ accepted_timing m ls sheet → k ≡ length t.rows → shelf ≡ set a.book.shelf (pred n) (Some t)
      → Calls m ls a (shelve n sheet) (Ok (rows k))
      (record {
        number = a.number;
        book = record { shelf = shelf; state = a.book.state; on = a.book.on; row = a.book.row; envelope = a.book.envelope };
        street = a.street;
      })
  shelved t k shelf empty e count put =
      let p = then_parts (reads m sheet) (λ x. then (checked m ls x.start x.rows) (λ _. Ok x)) t (sym e) in
      let q = then_parts (checked m ls p.0.start p.0.rows) (λ _. Ok p.0) t p.2 in
      let said : reads m sheet ≡ Ok t = p.1 ∙ q.2 in
      let passes : ask_sheet m ls (reads m sheet) ≡ None = rw (p.1, q.1) refl in
      record {
        answer =
            subst (λ x. Answers m a (shelve n sheet) x (Ok (rows k)))
            (sym (first_two (ask_number n) (ask_empty a.book.shelf n) (ask_sheet m ls (reads m sheet)) empty ∙ passes)) (rw (said, count) refl);
        book = rw (said, put) refl;
        street = refl;
        number = refl;
      }
