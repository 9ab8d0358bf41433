-- A sheet is accepted exactly where it says a plan whose every one-round run holds.
use Rattle.std.proofs.Common.{◌≡◌, ℕ, ◌≤◌, false, List, map, length, replicate, is_ok, Ok, Err, Decides, Result, sym, refl, ap, ◌∙◌, subst, arith, length-take}
use Rattle.std.proofs.lemmas.List.{length-replicate}
use Rattle.refusal.specs.declared.Refusal.{Refusal}
use Rattle.refusal.specs.Questions.{Told, told_by, then}
use Rattle.refusal.proofs.Turning.{ok_same, then_ok, then_err, then_parts}
use Rattle.model.specs.Model.{Meaning, Lawful}
use Rattle.plan.specs.declared.limits.Limit.{Limit}
use Rattle.plan.specs.Check.{checked, Timing}
use Rattle.plan.specs.Runs.{EveryRunHolds}
use Rattle.plan.proofs.Accepts.{checked_count, checked_passed, checked_passes}
use Rattle.plan.proofs.Runs.{decides_runs, passes_hold, holds_pass}
use Rattle.words.specs.Tables.{tabled}
use Rattle.words.proofs.Written.{length_written}
use Rattle.plan_sheet.specs.declared.fault.PlanFault.{PlanFault}
use Rattle.plan_sheet.specs.Faults.{plan_refusal}
use Rattle.plan_sheet.specs.Plans.{PlanSaid, plan_sheet}
use Rattle.plan_sheet.specs.Says.{Says, Exact}
use Rattle.plan_sheet.specs.Accepts.{rows_said, timing_said, reads, accepted_timing, checked_sheet, Accepts}
use Rattle.plan_sheet.proofs.Exactness.{exactly}

module _ (m : Meaning) (bs : List ℕ) where
  -- the start and the rows of a plan that a sheet says
  pub whole_start : (p : PlanSaid) → Says m bs p → length p.start ≡ 64
  whole_start p s = ap length s.start ∙ length_written (replicate 64 0) 0 s.queues ∙ length-replicate {A = ℕ} 64 0

  -- how many rows count
  pub count_rows : (p : PlanSaid) → Says m bs p → length (rows_said p) ≡ p.count
  count_rows p s =
      let long : length p.rows ≡ 64 = ap length s.table ∙ length_written {A = List ℕ} (replicate 64 (replicate 32 0)) 0 (map (tabled 32) s.rows) ∙ length-replicate {A = List ℕ} 64 (replicate 32 0) in
      simp length-take (omega (arith, s.count, s.few))

  pub some_rows : (p : PlanSaid) → Says m bs p → 1 ≤ length (rows_said p)
  some_rows p s =
      omega (arith, count_rows p s, s.count, s.some)

  -- a plan that was read has a whole start and a row
  pub well_read : Lawful m → (t : Timing) → reads m bs ≡ Ok t → (length t.start ≡ 64) × (1 ≤ length t.rows)
  unfolding reads
  well_read law t e =
      let q = then_parts (plan_sheet m bs) (λ p. Ok (timing_said p)) t e in
      let s : Says m bs q.0 = (exactly m bs law q.0).0 q.1 in
      subst (λ u. (length u.start ≡ 64) × (1 ≤ length u.rows)) (ok_same q.2) (whole_start q.0 s, some_rows q.0 s)

  -- a sheet that says a plan reads as that plan
  pub says_reads : Lawful m → (p : PlanSaid) → Says m bs p → reads m bs ≡ Ok (timing_said p)
  unfolding reads
  says_reads law p s = then_ok (λ q. Ok (timing_said q)) ((exactly m bs law p).1 s)

module _ (m : Meaning) (ls : List Limit) (bs : List ℕ) where
  -- the plan that is accepted, by what is read and what is checked
  pub timing_unread : (d : Refusal) → plan_sheet m bs ≡ Err d → accepted_timing m ls bs ≡ Err d
  unfolding reads
  timing_unread d e = rw e refl

  pub timing_refused : (p : PlanSaid) (d : Refusal) → plan_sheet m bs ≡ Ok p → checked m ls p.start (rows_said p) ≡ Err d → accepted_timing m ls bs ≡ Err d
  unfolding reads
  timing_refused p d e f = rw e (then_err _ f)

  pub timing_read : (p : PlanSaid) (k : ℕ) → plan_sheet m bs ≡ Ok p → checked m ls p.start (rows_said p) ≡ Ok k → accepted_timing m ls bs ≡ Ok (timing_said p)
  unfolding reads
  timing_read p k e f = rw e (then_ok _ f)

  counted : (start : List ℕ) (rs : List (List ℕ)) (t : Timing) (c : Told ℕ) → checked m ls start rs ≡ c → t.rows ≡ rs → c ≡ then (then c (λ _. Ok t)) (λ u. Ok (length u.rows))
  counted start rs t (Ok k) e same = ap Ok (sym (ap length same ∙ checked_count m ls start rs k e))
  counted start rs t (Err d) e same = refl

  counts : (s : Told PlanSaid) → then s (λ p. checked m ls p.start (rows_said p)) ≡ then (then (then s (λ p. Ok (timing_said p))) (λ t. then (checked m ls t.start t.rows) (λ _. Ok t))) (λ u. Ok (length u.rows))
  counts (Ok p) = counted p.start (rows_said p) (timing_said p) (checked m ls p.start (rows_said p)) refl refl
  counts (Err d) = refl

  -- the answer of the check is the count of the rows of the plan that is accepted
  pub timing_counts : (r : Told Timing) → r ≡ accepted_timing m ls bs → checked_sheet m ls bs ≡ then r (λ t. Ok (length t.rows))
  unfolding reads
  timing_counts r e = counts (plan_sheet m bs) ∙ sym (ap (λ s. then s (λ t. Ok (length t.rows))) e)

  -- a sheet that says no plan
  pub says_none : (d : Refusal) → Exact m bs (Err d) → Accepts m ls bs false
  says_none d x =
      record {
        says = λ e. absurd (let z : ◌≡◌ {A = ℕ} 0 1 = cc in omega arith);
        holds = λ p s. absurd (let e = (x p).1 s in let z : ◌≡◌ {A = ℕ} 0 1 = cc in omega arith);
      }

  -- a sheet that says p, with an answer that tells the check of p
  pub says_one : Lawful m → (p : PlanSaid) (r : Result ℕ PlanFault) → Exact m bs (Ok p) → told_by plan_refusal r ≡ checked m ls p.start (rows_said p) → Accepts m ls bs (is_ok r)
  says_one law p r x e =
      let start : List ℕ = p.start in
      let rs : List (List ℕ) = rows_said p in
      let s : Says m bs p = (x p).0 refl in
      let d : Decides (is_ok r) (EveryRunHolds m ls start rs) = decides_runs plan_refusal m law ls start rs r (whole_start m bs p s) (some_rows m bs p s) e in
      record {
        says = λ a. (p, s);
        holds = λ q t. subst (λ y. Decides (is_ok r) (EveryRunHolds m ls y.start (rows_said y))) (ok_same ((x q).1 t)) d;
      }

  -- an accepted sheet says a plan whose every one-round run holds, and the answer is the count of its rows
  pub accepted : Lawful m → (k : ℕ) → checked_sheet m ls bs ≡ Ok k → (p : PlanSaid) × Says m bs p × EveryRunHolds m ls p.start (rows_said p) × (p.count ≡ k)
  accepted law k e =
      let q = then_parts (plan_sheet m bs) (λ p. checked m ls p.start (rows_said p)) k e in
      let p : PlanSaid = q.0 in
      let s : Says m bs p = (exactly m bs law p).0 q.1 in
      let passes = checked_passed m ls law p.start (rows_said p) k (whole_start m bs p s) q.2 in
      (p, s, passes_hold m law ls p.start (rows_said p) (some_rows m bs p s) passes, sym (count_rows m bs p s) ∙ ok_same (sym (checked_passes m ls p.start (rows_said p) passes) ∙ q.2))

  -- a sheet that says such a plan is accepted
  pub accepts : Lawful m → (p : PlanSaid) → Says m bs p → EveryRunHolds m ls p.start (rows_said p) → checked_sheet m ls bs ≡ Ok p.count
  accepts law p s h =
      then_ok (λ q. checked m ls q.start (rows_said q)) ((exactly m bs law p).1 s)
      ∙ checked_passes m ls p.start (rows_said p) (holds_pass m law ls p.start (rows_said p) (whole_start m bs p s) h)
      ∙ ap Ok (count_rows m bs p s)
