-- The limits of a model sheet.
use Rattle.std.specs.Prelude.{◌≡◌, ℕ, ◌≤◌, Bool, false, cond, ◌||◌, List, [], ◌∷◌, length, take, replicate, Ok, codes, decimal, ◌==◌, ◌≢◌}
use Rattle.std.specs.List.{list_any, flat_map, AllByRecursion}
use Rattle.refusal.specs.Questions.{Told, then, no}
use Rattle.words.specs.Numbers.{number_at}
use Rattle.words.specs.Spelling.{Spelled}
use Rattle.words.specs.Tables.{written}
use Rattle.words.specs.declared.recorded.Recorded.{Recorded}
use Rattle.records.specs.Sections.{Reader, Items, table_at, section_of}
use Rattle.plan.specs.declared.limits.Term.{Term}
use Rattle.plan.specs.declared.limits.Limit.{Limit}

-- what stands beyond the last term
abbrev pub no_term : Term
no_term = record { place = 0; weight = 0 }

-- the place is one of the terms'
abbrev pub named_in : ℕ → List Term → Bool
named_in p ts = list_any (λ t. t.place == p) ts

-- a place is named more than once
abbrev pub repeated : List Term → Bool
repeated [] = false
repeated (t ∷ ts) = named_in t.place ts || repeated ts

-- a term: a place from 1 to places, and a weight from 1 to 1000
abbrev pub term_at : List ℕ → ℕ → Reader Term
term_at bs places at before =
    then (number_at bs at 1 places) (λ p.
    then (number_at bs p.end 1 1000) (λ w.
    Ok (record { item = record { place = p.value; weight = w.value }; end = w.end })))

-- so many terms, as a table of 8
abbrev pub terms_at : List ℕ → ℕ → ℕ → ℕ → Told (Recorded (List Term))
terms_at bs places at count = table_at (term_at bs places) 8 no_term at count

-- question 10, after the record, which begins at p: is each place named once?
abbrev pub once_only : ℕ → Recorded Limit → Told (Recorded Limit)
once_only p r = cond (repeated (take r.item.count r.item.terms)) (no 10 p) (Ok r)

-- a bound, a count of terms from 1 to 8, and the terms
abbrev pub limit_at : List ℕ → ℕ → Reader Limit
limit_at bs places at before =
    then (number_at bs at 0 999999999) (λ bound.
    then (number_at bs bound.end 1 8) (λ count.
    then (terms_at bs places count.end count.value) (λ terms.
    once_only bound.place (record { item = record { bound = bound.value; count = count.value; terms = terms.item }; end = terms.end }))))

-- the section: at most 32 limits on so many places
abbrev pub limits_section : List ℕ → ℕ → ℕ → Told (Items Limit)
limits_section bs places at = section_of (limit_at bs places) bs at (codes "limits") 0 32

-- the words of a term
abbrev pub term_text : Term → List (List ℕ)
term_text t = decimal t.place ∷ decimal t.weight ∷ []

-- a place of the model and a weight in range
pub record TermOf (places : ℕ) (t : Term) : Type 0 where
  pub some_place : 1 ≤ t.place
  pub place : t.place ≤ places
  pub some_weight : 1 ≤ t.weight
  pub weight : t.weight ≤ 1000

-- each place is named once
abbrev pub Once : List Term → Type 0
Once [] = Unit {0}
Once (t ∷ ts) = AllByRecursion (λ u. u.place ≢ t.place) ts × Once ts

-- the words from place `at` to `to` are those of the limit l
pub record LimitSaid (bs : List ℕ) (places : ℕ) (before : List Limit) (at : ℕ) (l : Limit) (to : ℕ) : Type 0 where
  pub terms : List Term
  pub some : 1 ≤ length terms
  pub few : length terms ≤ 8
  pub each : AllByRecursion (TermOf places) terms
  pub once : Once terms
  pub bound : l.bound ≤ 999999999
  pub count : l.count ≡ length terms
  pub table : l.terms ≡ written (replicate 8 no_term) 0 terms
  pub words : Spelled bs at (decimal l.bound ∷ decimal (length terms) ∷ flat_map term_text terms) to
