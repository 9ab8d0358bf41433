-- Every call is answered, and only the street's answer and arrivals are open.
use Rattle.std.proofs.Common.{◌≡◌, ℕ, false, List, Some, None, Ok, Err, Option, sym, refl, ap, ◌∙◌, subst}
use Rattle.refusal.specs.declared.Refusal.{Refusal}
use Rattle.model.specs.Model.{Meaning}
use Rattle.model.specs.State.{Within}
use Rattle.street.specs.declared.Showing.{Showing}
use Rattle.street.specs.declared.Showing.TheVariants.{Dark}
use Rattle.street.specs.Street.{Seen, lamps_after}
use Rattle.plan.specs.declared.limits.Limit.{Limit}
use Rattle.plan_sheet.specs.Accepts.{reads}
use Rattle.lives.specs.Area.{Area, current_row}
use Rattle.lives.specs.Calls.{Call, shelve, take, advance, change, give_back, Tale, rows, duty, street, done, Outcome, first_no, count_in, Tells, Answers, answer_in, book_after, step_in, Moves}
use Rattle.lives.specs.Promises.{AsChosen, EveryCallAnswers, OnlyTheStreetIsFree}

-- what an accepted call tells, where the street answers s
tale : Meaning → Area → Showing → Call → Tale
tale m a s (shelve n sheet) = rows (count_in (reads m sheet))
tale m a s (take n) = duty a.number
tale m a s (advance d) = street s
tale m a s (change d n) = done
tale m a s (give_back d) = done

tale_tells : (m : Meaning) (a : Area) (s : Showing) (c : Call) → Tells m a c (tale m a s c)
unfolding tale
tale_tells m a s (advance d) = (s, refl)
tale_tells m a s _ = refl

outcome : Meaning → Area → Showing → Call → Option Refusal → Outcome
outcome m a s c (Some r) = Err r
outcome m a s c None = Ok (tale m a s c)

outcome_answers : (m : Meaning) (a : Area) (s : Showing) (c : Call) (q : Option Refusal) → Answers m a c q (outcome m a s c q)
unfolding outcome
outcome_answers m a s c (Some r) = refl
outcome_answers m a s c None = tale_tells m a s c

-- a step, where there is one, has the street's answer
step_chosen : (m : Meaning) (a : Area) (s : Showing) (c : Call) (q : Option Refusal) (t : Showing) → step_in c (outcome m a s c q) ≡ Some t → t ≡ s
unfolding outcome tale
step_chosen m a s c (Some r) t e = cc
step_chosen m a s (advance d) None t e = cc
step_chosen m a s _ None t e = cc

street_after : Meaning → List ℕ → List ℕ → Seen → Option Showing → Seen
street_after m row v before None = before
street_after m row v before (Some s) =
    record { queues = m.next (lamps_after m s row) before.queues v; lamps = lamps_after m s row; arrivals = v }

street_moves :
    (m : Meaning) (row v : List ℕ) (before : Seen) (k : Option Showing) → Within v m.loads
    → ((s : Showing) → k ≡ Some s → m.legal row ≡ false → s ≡ Dark)
    → Moves m row k before (street_after m row v before k)
unfolding street_after
street_moves m row v before None u l = refl
street_moves m row v before (Some s) u l = record { lamps = refl; arrivals = u; queues = refl; illegal = l s refl }

street_chosen :
    (m : Meaning) (row v : List ℕ) (before : Seen) (k : Option Showing) (s : Showing) → ((t : Showing) → k ≡ Some t → t ≡ s)
    → AsChosen k s v (street_after m row v before k)
unfolding street_after
street_chosen m row v before None s h = tt
street_chosen m row v before (Some t) s h = (h t refl, refl)

pub every_call_answers : (m : Meaning) (ls : List Limit) → EveryCallAnswers m ls
every_call_answers m ls a es life c s v u legal =
    let q = first_no m ls a c in
    let o = outcome m a s c q in
    let row = current_row m a.book in
    let k = step_in c o in
    let b : Area = record { number = a.number; book = book_after m ls c o a.book; street = street_after m row v a.street k } in
    let chosen = step_chosen m a s c q in (
      o,
      b,
      record {
        answer = outcome_answers m a s c q;
        book = refl;
        street = street_moves m row v a.street k u (λ x e l. chosen x e ∙ legal l);
        number = refl;
      },
      street_chosen m row v a.street k s chosen,
    )

-- Nothing else is open.

told_alike :
    (m : Meaning) (a : Area) (c : Call) (t u : Tale) → Tells m a c t → Tells m a c u
    → step_in c (Ok t) ≡ step_in c (Ok u) → t ≡ u
told_alike m a (advance d) t u x y e =
    let f : answer_in t ≡ answer_in u = cc in
    x.1 ∙ ap street (sym (ap answer_in x.1) ∙ f ∙ ap answer_in y.1) ∙ sym y.1
told_alike m a _ t u x y e = x ∙ sym y

outcome_alike :
    (m : Meaning) (a : Area) (c : Call) (k : Option Refusal) (o q : Outcome) → Answers m a c k o → Answers m a c k q
    → step_in c o ≡ step_in c q → o ≡ q
outcome_alike m a c (Some r) o q x y e = cc
outcome_alike m a c None (Err r) q x y e = absurd x
outcome_alike m a c None (Ok t) (Err r) x y e = absurd y
outcome_alike m a c None (Ok t) (Ok u) x y e = ap Ok (told_alike m a c t u x y e)

street_alike :
    (m : Meaning) (row : List ℕ) (k : Option Showing) (before s u : Seen) → Moves m row k before s → Moves m row k before u
    → s.arrivals ≡ u.arrivals → s ≡ u
street_alike m row None before s u x y e = x ∙ sym y
street_alike m row (Some b) before s u x y e =
    let l : s.lamps ≡ u.lamps = cc in
    let q : s.queues ≡ u.queues = cc in
    λ i. record { queues = q i; lamps = l i; arrivals = e i }

pub only_the_street_is_free : (m : Meaning) (ls : List Limit) → OnlyTheStreetIsFree m ls
only_the_street_is_free m ls a b d c o q s t e v =
    let f = outcome_alike m a c (first_no m ls a c) o q s.answer t.answer e in
    let row = current_row m a.book in
    let g = s.book ∙ ap (λ x. book_after m ls c x a.book) f ∙ sym t.book in
    let n = s.number ∙ sym t.number in
    let w = street_alike m row (step_in c q) a.street b.street d.street
    (subst (λ k. Moves m row k a.street b.street) e s.street) t.street v in
    (f, λ i. record { number = n i; book = g i; street = w i })
