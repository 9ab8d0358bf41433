-- A place that is named more than once, by its terms one after the other.
use Rattle.std.proofs.Common.{◌≡◌, ℕ, ◌+◌, ◌-◌, ◌||◌, Bool, List, [], ◌∷◌, length, take, drop, sym, refl, ap, ◌∙◌, arith, drop-drop, length-drop}
use Rattle.std.specs.List.{list_any, enumerate_from}
use Rattle.std.proofs.lemmas.List.{take_all}
use Rattle.plan.specs.declared.limits.Term.{Term}
use Rattle.limit_sheet.specs.Limits.{named_in, repeated}

-- is the place of this term named after it?
abbrev pub named_later : List Term → ℕ × Term → Bool
named_later ts p = named_in p.1.place (drop (p.0 + 1) ts)

-- the terms from k on
pub later_from : (all ts : List Term) (k : ℕ) → drop k all ≡ ts → list_any (named_later all) (enumerate_from k ts) ≡ repeated ts
later_from all [] k e = refl
later_from all (t ∷ ts) k e =
    let more : drop (k + 1) all ≡ ts = sym (drop-drop 1 k all) ∙ ap (drop 1) e in
    ap (λ us. named_in t.place us || list_any (named_later all) (enumerate_from (k + 1) ts)) more
    ∙ ap (λ b. named_in t.place ts || b) (later_from all ts (k + 1) more)

-- the part from j on
pub rest : (ts : List Term) (j : ℕ) → take (length ts - j) (drop j ts) ≡ drop j ts
rest ts j = take_all (length ts - j) (drop j ts) (omega (arith, length-drop j ts))
