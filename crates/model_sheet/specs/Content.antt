-- What a model sheet says.
use Rattle.std.specs.Prelude.{◌≡◌, ℕ, List, Ok, vec_items}
use Rattle.refusal.specs.Questions.{Told, then}
use Rattle.model.specs.Model.{Meaning}
use Rattle.plan.specs.declared.limits.Limit.{Limit}
use Rattle.model_sheet.specs.declared.ModelRead.{ModelRead}

-- a model, its limits, and where the last word of its sheet ended
pub record Content (A : Type 0) : Type 0 where
  pub model : A
  pub limits : List Limit
  pub end : ℕ

-- what was read, with its model seen as `view` sees it
abbrev pub content_by : {M A : Type 0} → (M → A) → ModelRead M → Content A
content_by view r = record { model = view r.model; limits = vec_items r.limits; end = r.end }

-- the same with what its model means
abbrev pub meant : {A : Type 0} → (A → Meaning) → Content A → Content Meaning
meant meaning c = record { model = meaning c.model; limits = c.limits; end = c.end }

-- what a sheet says, with what its model means
abbrev pub told_meant : {A : Type 0} → (A → Meaning) → Told (Content A) → Told (Content Meaning)
told_meant meaning t = then t (λ c. Ok (meant meaning c))

-- the words say some model that means this, with these limits, up to there
pub record Means {A : Type 0} (meaning : A → Meaning) (Says : Content A → Type 0) (c : Content Meaning) : Type 0 where
  pub model : A
  pub means : c.model ≡ meaning model
  pub words : Says (record { model = model; limits = c.limits; end = c.end })
