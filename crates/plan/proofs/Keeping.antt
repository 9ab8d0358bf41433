-- Limits: one more in the search for the first broken one, and what keeps them.
use Rattle.std.proofs.Common.{◌≡◌, ℕ, zero, suc, ◌+◌, ◌<◌, ◌≤◌, Bool, true, false, cond, ltb, List, [], ◌∷◌, length, get_or, drop, Some, None, sum_by, Option, sym, refl, ap, ◌∙◌, zero-le, le_trans, le_refl, mul-le-mul_left, arith}
use Rattle.std.proofs.lemmas.List.{at_drop_more, at_drop_all}
use Rattle.std.proofs.lemmas.List.Sums.{sum_by-cons}
use Rattle.std.proofs.lemmas.Bool.{cond-true, cond-false, le-ltb, ltb-false}
use Rattle.model.specs.State.{Below, told}
use Rattle.plan.specs.declared.limits.Term.{Term}
use Rattle.plan.specs.declared.limits.Limit.{Limit}
use Rattle.plan.specs.Limits.{no_limit, weighed, total, Keeps, broken_from}
use Rattle.std.specs.List.{AllWithin, HoldsAt}
use Rattle.std.specs.Option.{MatchOption, option_map}

module _ (ls : List Limit) (x : List ℕ) (i : ℕ) (d : Limit) (h : i < length ls) where
  pub broken_here : true ≡ ltb (get_or ls i d).bound (total x (get_or ls i d).terms) → broken_from (i + 1) (drop i ls) x ≡ Some (i + 1)
  broken_here l = at_drop_more (λ ks. broken_from (i + 1) ks x) ls i d h ∙ cond-true _ _ _ (sym l)

  pub broken_more : false ≡ ltb (get_or ls i d).bound (total x (get_or ls i d).terms) → broken_from (i + 1) (drop i ls) x ≡ broken_from (i + 1 + 1) (drop (i + 1) ls) x
  broken_more l = at_drop_more (λ ks. broken_from (i + 1) ks x) ls i d h ∙ cond-false _ _ _ (sym l)

pub broken_done : (ls : List Limit) (x : List ℕ) (i : ℕ) → length ls ≤ i → broken_from (i + 1) (drop i ls) x ≡ None
broken_done ls x i h = at_drop_all (λ ks. broken_from (i + 1) ks x) ls i h

-- a test that finds nothing, and nothing later
passed : (b : Bool) (o : Option ℕ) (n : ℕ) → cond b (Some n) o ≡ None → (b ≡ false) × (o ≡ None)
passed true o n e = absurd (let z : ◌≡◌ {A = ℕ} 0 1 = cc in omega arith)
passed false o n e = (refl, e)

pub unbroken_keeps : (n : ℕ) (ls : List Limit) (x : List ℕ) → broken_from n ls x ≡ None → Keeps ls x
unbroken_keeps n [] x e = tt
unbroken_keeps n (l ∷ ls) x e =
    let p = passed (ltb l.bound (total x l.terms)) (broken_from (n + 1) ls x) n e in
    (ltb-false l.bound (total x l.terms) p.0, unbroken_keeps (n + 1) ls x p.1)

pub keeps_unbroken : (n : ℕ) (ls : List Limit) (x : List ℕ) → Keeps ls x → broken_from n ls x ≡ None
keeps_unbroken n [] x k = refl
keeps_unbroken n (l ∷ ls) x k = cond-false _ _ _ (le-ltb l.bound (total x l.terms) k.0) ∙ keeps_unbroken (n + 1) ls x k.1

told_below : (x y : List ℕ) → Below x y → (p : ℕ) → told x p ≤ told y p
told_below x y h zero = zero-le
told_below x y h (suc k) = h k

total_below : (x y : List ℕ) → Below x y → (ts : List Term) → sum_by (weighed x) ts ≤ sum_by (weighed y) ts
total_below x y h [] = le_refl 0
total_below x y h (t ∷ ts) =
    omega (arith, sum_by-cons (weighed x) t ts, sum_by-cons (weighed y) t ts, mul-le-mul_left t.weight (told_below x y h t.place), total_below x y h ts)

-- less keeps the limits too
pub keeps_below : (ls : List Limit) (x y : List ℕ) → Below x y → Keeps ls y → Keeps ls x
keeps_below [] x y h k = tt
keeps_below (l ∷ ls) x y h k = (le_trans (total_below x y h l.terms) k.0, keeps_below ls x y h k.1)

-- the answer of `position` over the limits
module _ (ls : List Limit) (x : List ℕ) where
  abbrev Breaks : Bool → Limit → Type 0
  Breaks b l = ltb l.bound (total x l.terms) ≡ b

  kept_so_far : (k : ℕ) → k ≤ length ls → AllWithin (Breaks false) ls 0 k → broken_from 1 ls x ≡ broken_from (k + 1) (drop k ls) x
  kept_so_far zero h t = refl
  kept_so_far (suc k) h t =
      kept_so_far k (omega arith) (λ j d l m. t j d l (omega arith))
      ∙ (broken_more ls x k no_limit (omega arith) (sym (t k no_limit (omega arith) (omega arith)))
      ∙ (let same : k + 1 ≡ suc k = omega arith in ap (λ i. broken_from (i + 1) (drop i ls) x) same))

  pub first_found : (r : Option ℕ) → MatchOption r (AllWithin (Breaks false) ls 0 (length ls)) (λ i. (i < length ls) × HoldsAt (Breaks true) ls i × AllWithin (Breaks false) ls 0 i) → option_map (λ k. k + 1) r ≡ broken_from 1 ls x
  first_found None t = sym (kept_so_far (length ls) (le_refl (length ls)) t ∙ broken_done ls x (length ls) (le_refl (length ls)))
  first_found (Some k) t =
      sym (kept_so_far k (omega (arith, t.0)) t.2 ∙ broken_here ls x k no_limit t.0 (sym (t.1 no_limit)))
