-- The heaviest run passes exactly where every one-round run holds.
use Rattle.std.proofs.Common.{◌≡◌, ℕ, ◌≤◌, List, [], ◌∷◌, length, is_ok, Decides, Result, sym, refl, subst, le_trans, le_refl, arith}
use Rattle.model.specs.Model.{Meaning, Lawful}
use Rattle.model.specs.State.{Below}
use Rattle.plan.specs.declared.limits.Limit.{Limit}
use Rattle.plan.specs.Limits.{Keeps}
use Rattle.plan.specs.Check.{checked, round_end, Passes, PassesRound}
use Rattle.plan.specs.Runs.{Run, ends, takes, Holds, EveryRunHolds}
use Rattle.plan.specs.declared.fault.CheckFault.{CheckFault}
use Rattle.plan.specs.Faults.{check_refusal}
use Rattle.plan.specs.Accepts.{Checked}
use Rattle.plan.proofs.Keeping.{keeps_below}
use Rattle.plan.proofs.Accepts.{checked_passed, checked_passes, told_decides}
use Rattle.refusal.specs.Questions.{told_by}
use Rattle.refusal.specs.declared.Refusal.{Refusal}

module _ (m : Meaning) (law : Lawful m) (ls : List Limit) (start : List ℕ) where
  -- with less than the heaviest run each row is clear too, and each state lower
  runs_hold : {x : List ℕ} {rs : List (List ℕ)} (run : Run m x rs) (h : List ℕ) → Keeps ls start → Below x h → Passes m ls h rs → Below (round_end m h rs) start → Holds m ls start run
  runs_hold (ends {x}) h k u p e =
      let d : Below x start = λ j. le_trans (u j) (e j) in
      (keeps_below ls x start d k, d)
  runs_hold (takes {x} {r} {rs} v y w reach rest) h k u p e = (
    keeps_below ls x h u p.0,
    law.order_clear r x h v m.loads u w.below p.1,
    runs_hold rest (m.next r h m.loads) k
        (subst (λ z. Below z (m.next r h m.loads)) (sym reach) (law.order_next r x h v m.loads u w.below p.1)) p.2 e,
  )

  heaviest : (x : List ℕ) (rs : List (List ℕ)) → Run m x rs
  heaviest x [] = ends
  heaviest x (r ∷ rs) =
      takes m.loads (m.next r x m.loads) (record { size = law.whole_loads; below = λ j. le_refl _ }) refl (heaviest (m.next r x m.loads) rs)

  heaviest_passes : (x : List ℕ) (rs : List (List ℕ)) → Holds m ls start (heaviest x rs) → Passes m ls x rs × Below (round_end m x rs) start
  unfolding heaviest
  heaviest_passes x [] h = (tt, h.1)
  heaviest_passes x (r ∷ rs) h = let t = heaviest_passes (m.next r x m.loads) rs h.2 in ((h.0, h.1, t.0), t.1)

  pub start_keeps : (rs : List (List ℕ)) → 1 ≤ length rs → Passes m ls start rs → Keeps ls start
  start_keeps [] h p = absurd (omega arith)
  start_keeps (r ∷ rs) h p = p.0

  pub passes_hold : (rs : List (List ℕ)) → 1 ≤ length rs → PassesRound m ls start rs → EveryRunHolds m ls start rs
  passes_hold rs some p x w run = runs_hold run start (start_keeps rs some p.0) w.below p.0 p.1

  pub holds_pass : (rs : List (List ℕ)) → length start ≡ 64 → EveryRunHolds m ls start rs → PassesRound m ls start rs
  holds_pass rs w h = heaviest_passes start rs (h start (record { size = w; below = λ j. le_refl _ }) (heaviest start rs))

-- an answer that tells what is checked, by refusals of any kind, decides whether every one-round run holds
pub decides_runs : {F : Type 0} (number : F → Refusal) (m : Meaning) → Lawful m → (ls : List Limit) (start : List ℕ) (rs : List (List ℕ)) (r : Result ℕ F) → length start ≡ 64 → 1 ≤ length rs → told_by number r ≡ checked m ls start rs → Decides (is_ok r) (EveryRunHolds m ls start rs)
decides_runs number m law ls start rs r w some e =
    told_decides number r (checked m ls start rs) (EveryRunHolds m ls start rs) e
    (λ k a. passes_hold m law ls start rs some (checked_passed m ls law start rs k w a))
    (λ h. (length rs, checked_passes m ls start rs (holds_pass m law ls start rs w h)))

-- an answer of the check keeps its whole promise
pub promised : (m : Meaning) → Lawful m → (ls : List Limit) (start : List ℕ) (rs : List (List ℕ)) (r : Result ℕ CheckFault) → length start ≡ 64 → 1 ≤ length rs → told_by check_refusal r ≡ checked m ls start rs → Checked m ls start rs r
promised m law ls start rs r w some e =
    record {
      is = e;
      passes =
          told_decides check_refusal r (checked m ls start rs) (PassesRound m ls start rs) e
          (λ k a. checked_passed m ls law start rs k w a)
          (λ p. (length rs, checked_passes m ls start rs p));
      holds = decides_runs check_refusal m law ls start rs r w some e;
    }
