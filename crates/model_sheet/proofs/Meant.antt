-- A sheet that is read exactly is read exactly by what its model means.
use Rattle.std.proofs.Common.{Ok, Err, Result, sym, refl, ap, ◌∙◌, subst, inl, inr, ⊎_elim}
use Rattle.refusal.specs.Questions.{Told}
use Rattle.records.specs.declared.fault.ModelFault.{ModelFault}
use Rattle.records.specs.declared.fault.ModelFault.TheVariants.{Sheet, Memory}
use Rattle.records.specs.Sections.{ToldAs, ReadAs, Exactly}
use Rattle.model.specs.Model.{Meaning}
use Rattle.model_sheet.specs.Content.{Content, meant, told_meant, Means}

module _ {V A : Type 0} (meaning : A → Meaning) (view : V → Content A) where
  pub told_as_meant : (r : Result V ModelFault) (t : Told (Content A)) → ToldAs view r t → ToldAs (λ v. meant meaning (view v)) r (told_meant meaning t)
  told_as_meant (Ok v) t is = ap (told_meant meaning) is
  told_as_meant (Err (Sheet e)) t is = ap (told_meant meaning) is
  told_as_meant (Err (Memory e)) t is = tt

  module _ (Says : Content A → Type 0) where
    read_meant : (r : Result V ModelFault) (c : Content Meaning) (s : Means meaning Says c) → ReadAs view r (record { model = s.model; limits = c.limits; end = c.end }) → ReadAs (λ v. meant meaning (view v)) r c
    read_meant (Ok v) c s e = ap (meant meaning) e ∙ ap (λ m. record { model = m; limits = c.limits; end = c.end }) (sym s.means)
    read_meant (Err f) c s e = absurd e

    says_meant : (r : Result V ModelFault) → Exactly view Says r → (c : Content Meaning) → ReadAs (λ v. meant meaning (view v)) r c → Means meaning Says c
    says_meant (Ok v) x c e = subst (Means meaning Says) e (record { model = (view v).model; means = refl; words = x.says (view v) refl })
    says_meant (Err f) x c e = absurd e

    pub exactly_meant : (r : Result V ModelFault) → Exactly view Says r → Exactly (λ v. meant meaning (view v)) (Means meaning Says) r
    exactly_meant r x =
        record {
          says = says_meant r x;
          reads = λ c s. ⊎_elim (λ e. inl (read_meant r c s e)) inr (x.reads (record { model = s.model; limits = c.limits; end = c.end }) s.words);
        }
