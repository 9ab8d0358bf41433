-- The verdict on what is read of a model sheet, once for every kind of model, and what tells the kinds apart.
use Rattle.std.proofs.Common.{◌≡◌, ℕ, true, false, List, drop, is_ok, IfOk, Ok, Err, codes, Result, sym, refl, ap, ◌∙◌, subst, ⊎_elim, arith}
use Rattle.std.specs.declared.alloc.AllocError.{AllocError}
use Rattle.refusal.specs.Questions.{Told}
use Rattle.refusal.proofs.Turning.{then_ok}
use Rattle.words.specs.Faults.{sheet_refusal}
use Rattle.words.specs.Numbers.{as_section}
use Rattle.words.proofs.Spelled.{next_read}
use Rattle.words.proofs.Due.{section_read}
use Rattle.records.specs.declared.fault.ModelFault.{ModelFault}
use Rattle.records.specs.declared.fault.ModelFault.TheVariants.{Sheet, Memory}
use Rattle.records.specs.Sections.{ToldAs, Exactly}
use Rattle.model.specs.Model.{Meaning, Lawful}
use Rattle.plan_sheet.specs.Accepts.{checked_sheet}
use Rattle.model_sheet.specs.Content.{Content}
use Rattle.verdict.specs.declared.verdict.Verdict.{Verdict}
use Rattle.linear_sheet.specs.Linear.{begins_linear}
use Rattle.verdict.specs.Judged.{verdict_of, verdict_after, Faulted, NetworkSaid, LinearSaid, Right}
use Rattle.verdict.proofs.Rightly.{right_read, right_refused}

module _ {V : Type 0} (view : V → Content Meaning) (Said : Content Meaning → Type 0) (bs : List ℕ) (t : Told (Content Meaning)) where
  -- where a model was read
  pub judged_read : (v : V) → Lawful (view v).model → ToldAs view (Ok v) t → Exactly view Said (Ok v) → (w : Verdict) → w ≡ verdict_of (checked_sheet (view v).model (view v).limits (drop (view v).end bs)) → (w ≡ verdict_after t bs) × Right Said bs w
  judged_read v law is x w e = (e ∙ ap (λ u. verdict_after u bs) is, right_read Said bs (view v) law (x.says (view v) refl) one w e)
    where
      one : (c : Content Meaning) → Said c → view v ≡ c
      one c s = ⊎_elim (λ e. e) (λ z. absurd (let y : ◌≡◌ {A = ℕ} 0 1 = cc in omega arith)) (x.reads c s)

  -- where none was read
  pub judged_fault : (why : ModelFault) (r : Result Verdict AllocError) → Faulted why r → ToldAs view (Err why) t → Exactly view Said (Err why) → IfOk r (λ w. w ≡ verdict_after t bs) × IfOk r (Right Said bs)
  judged_fault (Sheet f) r e is x =
      subst (λ q. IfOk q (λ w. w ≡ verdict_after t bs) × IfOk q (Right Said bs)) (sym e)
      (ap (λ u. verdict_after u bs) is, right_refused Said bs none (sheet_refusal f))
    where
      none : (c : Content Meaning) → Said c → ⊥
      none c s = ⊎_elim (λ z. z) (λ z. let y : ◌≡◌ {A = ℕ} 0 1 = cc in omega arith) (x.reads c s)
  judged_fault (Memory f) r e is x = subst (λ q. IfOk q (λ w. w ≡ verdict_after t bs) × IfOk q (Right Said bs)) (sym e) (tt, tt)

-- a network sheet does not begin as a linear one
pub network_begins : (bs : List ℕ) (c : Content Meaning) → NetworkSaid bs c → begins_linear bs ≡ false
network_begins bs c s =
    ap is_ok (then_ok (as_section (codes "modes")) (next_read bs 0 (codes "signals") _ s.words.signals.word_stands))

pub linear_begins : (bs : List ℕ) (c : Content Meaning) → LinearSaid bs c → begins_linear bs ≡ true
linear_begins bs c s = ap is_ok (section_read bs 0 (codes "modes") _ refl s.words.modes.word_stands)
