-- One turn after another, by `try_fold` over the numbers from one to another.
use Rattle.std.proofs.Common.{◌≡◌, ℕ, ◌+◌, ◌-◌, ◌<◌, List, [], ◌∷◌, Option, Some, None, Result, Ok, Err, sym, ap, ◌∙◌, subst, arith}
use denote.Param.Members.{Mut}
use Rattle.std.specs.Fn.{Called}
use Rattle.std.specs.Iterator.{Yields, TryFoldTurn, TryFoldsItems}
use Rattle.std.specs.List.{FoldsTo}
use Rattle.std.specs.Option.{MatchOption}
use Rattle.std.specs.Result.{result_from_control_flow, IsErr, IsErrAnd}
use Rattle.std.proofs.lemmas.Result.{err_from_is_err_and}
use Rattle.std.specs.declared.ops.Range.{Range}
use Rattle.std.specs.declared.ops.ControlFlow.{ControlFlow}
use Rattle.std.specs.declared.ops.ControlFlow.TheVariants.{Continue, Break}
use Rattle.std.proofs.iter.Yields.{nat_range_steps}
use Rattle.refusal.specs.Questions.{Told, turns}
use Rattle.refusal.proofs.Turning.{turns_more, turns_stop}
use Rattle.words.specs.declared.fault.SheetFault.{SheetFault}
use Rattle.words.specs.Faults.{sheet_refusal, told}

module _ {S F Z : Type 0} (step : ℕ → S → Told S) (g : Mut F (S × (ℕ × Unit {0})) (Result S SheetFault)) (f : F)
    -- each call leaves the closure as it was and tells one turn
    (each : (s : S) (k : ℕ) (r : Result S SheetFault) (q : F) → Called g f (s, (k, tt)) r q → (q ≡ f) × (told r ≡ step k s))
    -- what goes on, and what breaks off
    (branches : Result S SheetFault → ControlFlow Z S → Type 0) (resumes : Z → Result S SheetFault → Type 0)
    (goes : (v : Result S SheetFault) (t : S) → branches v (Continue t) → v ≡ Ok t)
    (breaks : (e : Z) (v r : Result S SheetFault) → branches v (Break e) → resumes e r → (x : SheetFault) × (v ≡ Err x) × (r ≡ Err x)) where
  folded : (xs : List ℕ) (a u w : Range ℕ) (o : Option ℕ) (s t : S) (j : F) (r : Result S SheetFault)
      → Yields nat_range_steps a xs w → nat_range_steps w o u → FoldsTo {P = F × S} (TryFoldTurn g branches) (f, s) xs (j, t)
      → MatchOption o (branches r (Continue t)) (λ x. (v : Result S SheetFault) × (h : F) × (e : Z) × Called g j (t, (x, tt)) v h × branches v (Break e) × resumes e r)
      → told r ≡ turns step (a.end - a.start) a.start s
  folded [] a u w None s t j r y n c m =
      let none : a.end - a.start ≡ 0 = omega (arith, n.1.0, ap (λ (q : Range ℕ). q.end) y, ap (λ (q : Range ℕ). q.start) y) in
      let same : s ≡ t = ap (λ (q : F × S). q.1) c in
      ap told (goes r t m) ∙ ap Ok (sym same) ∙ ap (λ k. turns step k a.start s) (sym none)
  folded [] a u w (Some x) s t j r y n c m =
      let on : a.start < a.end = omega (arith, n.1.0, ap (λ (q : Range ℕ). q.end) y, ap (λ (q : Range ℕ). q.start) y) in
      let at : x ≡ a.start = n.1.1 ∙ ap (λ (q : Range ℕ). q.start) (sym y) in
      let call : Called g f (s, (a.start, tt)) m.0 m.1 = subst (λ k. Called g f (s, (k, tt)) m.0 m.1) at (subst (λ (q : F × S). Called g q.0 (q.1, (x, tt)) m.0 m.1) (sym c) m.3) in
      let b = breaks m.2 m.0 r m.4 m.5 in
      ap told b.2 ∙ sym (turns_stop step a.end a.start s (sheet_refusal b.0) on (sym (each s a.start m.0 m.1 call).1 ∙ ap told b.1))
  folded (x ∷ xs) a u w o s t j r y n c m =
      let next : Range ℕ = y.0 in
      let on : a.start < a.end = omega (arith, y.1.1.0) in
      let call : Called g f (s, (a.start, tt)) c.1.0 c.0.0 = subst (λ k. Called g f (s, (k, tt)) c.1.0 c.0.0) y.1.1.1 c.1.1 in
      let turn = each s a.start c.1.0 c.0.0 call in
      let more = folded xs next u w o c.0.1 t j r y.2 n (subst (λ k. FoldsTo {P = F × S} (TryFoldTurn g branches) (k, c.0.1) xs (j, t)) turn.0 c.2) m in
      let ends : next.end ≡ a.end = y.1.0 in
      let starts : next.start ≡ a.start + 1 = y.1.1.2 in
      more ∙ (λ i. turns step (ends i - starts i) (starts i) c.0.1) ∙ sym (turns_more step a.end a.start s c.0.1 on (sym turn.1 ∙ ap told (goes c.1.0 c.0.1 c.1.2)))

  folds_turns : (a u : Range ℕ) (s : S) (r : Result S SheetFault) → TryFoldsItems nat_range_steps g branches resumes a f s r u → told r ≡ turns step (a.end - a.start) a.start s
  folds_turns a u s r d = folded d.0 a u d.4.0 d.1 s d.3 d.2 r d.4.1 d.4.2 d.5 d.6

-- what `try_fold` gives, from the clause on what it ran
pub told_turns : {S F : Type 0} (g : Mut F (S × (ℕ × Unit {0})) (Result S SheetFault)) (a u : Range ℕ) (s : S) (f : F) (r : Result S SheetFault)
    → TryFoldsItems nat_range_steps g (λ v c. v ≡ result_from_control_flow c) (λ e v. IsErr v × IsErrAnd v (λ x. x ≡ e.0)) a f s r u
    → (step : ℕ → S → Told S)
    → ((s : S) (k : ℕ) (r : Result S SheetFault) (q : F) → Called g f (s, (k, tt)) r q → (q ≡ f) × (told r ≡ step k s))
    → told r ≡ turns step (a.end - a.start) a.start s
told_turns g a u s f r ran step each =
    folds_turns step g f each (λ v c. v ≡ result_from_control_flow c) (λ e v. IsErr v × IsErrAnd v (λ x. x ≡ e.0))
    (λ v t b. b)
    (λ e v w b h. let p = err_from_is_err_and w h.1 in (p.0, b ∙ ap Err (sym p.2), p.1)) a u s r ran
