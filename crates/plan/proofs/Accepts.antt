-- The check accepts exactly where each row of the heaviest run passes and its end is at or below the start.
use Rattle.std.proofs.Common.{◌≡◌, ℕ, ◌+◌, ◌<◌, ◌≤◌, List, [], ◌∷◌, length, get_or, drop, is_ok, Some, None, Ok, Err, Decides, Option, Result, sym, refl, ap, ◌∙◌, arith}
use Rattle.std.proofs.lemmas.List.{at_drop_more, at_drop_all}
use Rattle.refusal.specs.declared.Refusal.{Refusal}
use Rattle.refusal.specs.Questions.{Told, then, told_by}
use Rattle.refusal.proofs.Turning.{then_ok, then_err, then_parts, ok_same}
use Rattle.model.specs.declared.Answer.{Answer}
use Rattle.model.specs.declared.Answer.TheVariants.{Clear, Held}
use Rattle.model.specs.Model.{Meaning, Lawful}
use Rattle.model.specs.State.{lowest_above}
use Rattle.model.proofs.State.{none_above, below_none}
use Rattle.plan.specs.declared.limits.Limit.{Limit}
use Rattle.plan.specs.Limits.{first_broken}
use Rattle.plan.specs.Check.{ask_row, check_row, check_rows, ask_end, checked, round_end, Passes, PassesRound}
use Rattle.plan.proofs.Keeping.{unbroken_keeps, keeps_unbroken}

-- a row that passes: nothing is broken and the row is clear
record Passed (f : Option ℕ) (a : Answer) (after y : List ℕ) : Type 0 where
  kept : f ≡ None
  is_clear : a ≡ Clear
  is : after ≡ y

err_ok : {A P : Type 0} (d : Refusal) (y : A) → ◌≡◌ {A = Told A} (Err d) (Ok y) → P
err_ok d y e = let z : ◌≡◌ {A = ℕ} 0 1 = cc in absurd (omega arith)

row_passed : (n : ℕ) (f : Option ℕ) (a : Answer) (after y : List ℕ) → ask_row n f a after ≡ Ok y → Passed f a after y
row_passed n (Some l) a after y e = err_ok _ y e
row_passed n None (Held p cause) after y e = err_ok _ y e
row_passed n None Clear after y e = record { kept = refl; is_clear = refl; is = ok_same e }

row_passes : (n : ℕ) (f : Option ℕ) (a : Answer) (after : List ℕ) → f ≡ None → a ≡ Clear → ask_row n f a after ≡ Ok after
row_passes n f a after p q = rw (p, q)

end_passed : (n : ℕ) (o : Option ℕ) (k : ℕ) → ask_end n o ≡ Ok k → o ≡ None
end_passed n (Some p) k e = err_ok _ k e
end_passed n None k e = refl

end_count : (n : ℕ) (o : Option ℕ) (k : ℕ) → ask_end n o ≡ Ok k → n ≡ k
end_count n (Some p) k e = err_ok _ k e
end_count n None k e = ok_same e

module _ (m : Meaning) (ls : List Limit) where
  -- what is told of an accepted plan is the count of its rows
  pub checked_count : (start : List ℕ) (rs : List (List ℕ)) (k : ℕ) → checked m ls start rs ≡ Ok k → length rs ≡ k
  checked_count start rs k e =
      let p = then_parts (check_rows m ls 0 start rs) (λ x. ask_end (length rs) (lowest_above x start)) k e in
      end_count (length rs) (lowest_above p.0 start) k p.2

  rows_passed : (n : ℕ) (x : List ℕ) (rs : List (List ℕ)) (y : List ℕ) → check_rows m ls n x rs ≡ Ok y → Passes m ls x rs × (round_end m x rs ≡ y)
  rows_passed n x [] y e = (tt, ok_same e)
  rows_passed n x (r ∷ rs) y e =
      let p = then_parts (check_row m ls n r x) (λ z. check_rows m ls (n + 1) z rs) y e in
      let s = row_passed n (first_broken ls x) (m.answer r x m.loads) (m.next r x m.loads) p.0 p.1 in
      let on : check_rows m ls (n + 1) (m.next r x m.loads) rs ≡ Ok y = ap (λ z. check_rows m ls (n + 1) z rs) s.is ∙ p.2 in
      let t = rows_passed (n + 1) (m.next r x m.loads) rs y on in
      ((unbroken_keeps 1 ls x s.kept, s.is_clear, t.0), t.1)

  rows_pass : (n : ℕ) (x : List ℕ) (rs : List (List ℕ)) → Passes m ls x rs → check_rows m ls n x rs ≡ Ok (round_end m x rs)
  rows_pass n x [] h = refl
  rows_pass n x (r ∷ rs) h =
      then_ok (λ z. check_rows m ls (n + 1) z rs) (row_passes n (first_broken ls x) (m.answer r x m.loads) (m.next r x m.loads) (keeps_unbroken 1 ls x h.0) h.1)
      ∙ rows_pass (n + 1) (m.next r x m.loads) rs h.2

  -- the state at the end has sixty-four numbers
  end_whole : Lawful m → (x : List ℕ) (rs : List (List ℕ)) → length x ≡ 64 → length (round_end m x rs) ≡ 64
  end_whole law x [] w = w
  end_whole law x (r ∷ rs) w = end_whole law (m.next r x m.loads) rs (law.whole_next r x m.loads)

  pub checked_passed : Lawful m → (start : List ℕ) (rs : List (List ℕ)) (k : ℕ) → length start ≡ 64 → checked m ls start rs ≡ Ok k → PassesRound m ls start rs
  checked_passed law start rs k w e =
      let p = then_parts (check_rows m ls 0 start rs) (λ x. ask_end (length rs) (lowest_above x start)) k e in
      let s = rows_passed 0 start rs p.0 p.1 in
      let o : lowest_above (round_end m start rs) start ≡ None = ap (λ x. lowest_above x start) s.1 ∙ end_passed (length rs) (lowest_above p.0 start) k p.2 in
      (s.0, none_above (round_end m start rs) start (end_whole law start rs w) o)

  pub checked_passes : (start : List ℕ) (rs : List (List ℕ)) → PassesRound m ls start rs → checked m ls start rs ≡ Ok (length rs)
  checked_passes start rs h =
      then_ok (λ x. ask_end (length rs) (lowest_above x start)) (rows_pass 0 start rs h.0)
      ∙ ap (ask_end (length rs)) (below_none (round_end m start rs) start h.1)

  -- one row further along the rows
  module _ (rs : List (List ℕ)) (n : ℕ) (x : List ℕ) where
    opened : n < length rs → check_rows m ls n x (drop n rs) ≡ then (check_row m ls n (get_or rs n []) x) (λ z. check_rows m ls (n + 1) z (drop (n + 1) rs))
    opened h = at_drop_more (check_rows m ls n x) rs n [] h

    pub rows_stop : n < length rs → (d : Refusal) → Err d ≡ check_row m ls n (get_or rs n []) x → check_rows m ls n x (drop n rs) ≡ Err d
    rows_stop h d e = opened h ∙ then_err (λ z. check_rows m ls (n + 1) z (drop (n + 1) rs)) (sym e)

    pub rows_done : length rs ≤ n → check_rows m ls n x (drop n rs) ≡ Ok x
    rows_done h = at_drop_all (check_rows m ls n x) rs n h

-- an answer that tells what is checked decides what the check decides
pub told_decides : {F : Type 0} (number : F → Refusal) (r : Result ℕ F) (c : Told ℕ) (P : Type 0) → told_by number r ≡ c → ((k : ℕ) → c ≡ Ok k → P) → (P → (k : ℕ) × (c ≡ Ok k)) → Decides (is_ok r) P
told_decides number (Ok k) c P e f g = (λ t. f k (sym e), λ p. refl)
told_decides number (Err d) c P e f g = (λ t. absurd (let z : ◌≡◌ {A = ℕ} 0 1 = cc in omega arith), λ p. let q = g p in err_ok (number d) q.0 (e ∙ q.1))
