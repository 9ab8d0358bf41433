-- `shelved` is said exactly of an input that says a model, its limits, and a plan whose every one-round run holds.
use Rattle.std.proofs.Common.{◌≡◌, ℕ, List, drop, Ok, Err, sym, ap, ◌∙◌, subst, arith}
use Rattle.refusal.specs.declared.Refusal.{Refusal}
use Rattle.refusal.specs.Questions.{Told}
use Rattle.model.specs.Model.{Meaning, Lawful}
use Rattle.plan.specs.Runs.{EveryRunHolds}
use Rattle.plan_sheet.specs.Says.{Says as SaysPlan}
use Rattle.plan_sheet.specs.Accepts.{checked_sheet, rows_said}
use Rattle.plan_sheet.proofs.Accepting.{accepted, accepts}
use Rattle.model_sheet.specs.Content.{Content}
use Rattle.verdict.specs.declared.verdict.Verdict.{Verdict}
use Rattle.verdict.specs.declared.verdict.Verdict.TheVariants.{Shelved, Refused}
use Rattle.verdict.specs.Judged.{verdict_of, Right}

-- a refusal is not `shelved`
refused_shelved : {P : Type 0} (d : Refusal) (k : ℕ) → ◌≡◌ {A = Verdict} (Refused d) (Shelved k) → P
refused_shelved d k e = let z : ◌≡◌ {A = ℕ} 0 1 = cc in absurd (omega arith)

shelved_ok : (t : Told ℕ) (k : ℕ) → verdict_of t ≡ Shelved k → t ≡ Ok k
shelved_ok (Ok n) k e = cc
shelved_ok (Err d) k e = refused_shelved d k e

module _ (Said : Content Meaning → Type 0) (bs : List ℕ) where
  -- where the input says no model
  pub right_refused : ((c : Content Meaning) → Said c → ⊥) → (d : Refusal) → Right Said bs (Refused d)
  right_refused none d =
      record { only = λ rows e. refused_shelved d rows e; always = λ rows h. absurd (none h.sheet h.says_model) }

  -- where it says one model alone
  pub right_read : (c : Content Meaning) → Lawful c.model → Said c → ((d : Content Meaning) → Said d → c ≡ d) → (w : Verdict) → w ≡ verdict_of (checked_sheet c.model c.limits (drop c.end bs)) → Right Said bs w
  right_read c law said one w is =
      record {
        only = λ rows e.
            let a = accepted c.model c.limits (drop c.end bs) law rows (shelved_ok _ rows (sym is ∙ e)) in
            record { sheet = c; plan = a.0; says_model = said; says_plan = a.1; every_run = a.2; count = a.3 };
        always = λ rows h.
            let e = sym (one h.sheet h.says_model) in
            let own = subst (λ d. SaysPlan d.model (drop d.end bs) h.plan) e h.says_plan in
            let every = subst (λ d. EveryRunHolds d.model d.limits h.plan.start (rows_said h.plan)) e h.every_run in
            is ∙ ap verdict_of (accepts c.model c.limits (drop c.end bs) law h.plan own every) ∙ ap Shelved h.count;
      }

-- the same for another way to say a model that says as much
pub right_alike : (Said Other : Content Meaning → Type 0) → ((c : Content Meaning) → Said c → Other c) → ((c : Content Meaning) → Other c → Said c) → (bs : List ℕ) (v : Verdict) → Right Said bs v → Right Other bs v
right_alike Said Other there back bs v r =
    record {
      only = λ rows e. let h = r.only rows e in record { sheet = h.sheet; plan = h.plan; says_model = there h.sheet h.says_model; says_plan = h.says_plan; every_run = h.every_run; count = h.count };
      always = λ rows h. r.always rows (record { sheet = h.sheet; plan = h.plan; says_model = back h.sheet h.says_model; says_plan = h.says_plan; every_run = h.every_run; count = h.count });
    }
