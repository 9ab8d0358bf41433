-- Limits, and the states that keep them.
use Rattle.std.specs.Prelude.{ℕ, ◌+◌, ◌*◌, ◌≤◌, cond, List, [], ◌∷◌, Some, None, sum_by, Option, nat_lt}
use Rattle.std.specs.List.{AllByRecursion}
use Rattle.model.specs.State.{told}
use Rattle.plan.specs.declared.limits.Term.{Term}
use Rattle.plan.specs.declared.limits.Limit.{Limit}

-- what stands past the last limit
abbrev pub no_limit : Limit
no_limit = record { bound = 0; count = 0; terms = [] }

-- weight × value
abbrev pub weighed : List ℕ → Term → ℕ
weighed x t = t.weight * told x t.place

-- the sum over the terms of a limit
abbrev pub total : List ℕ → List Term → ℕ
total x ts = sum_by (weighed x) ts

-- the state keeps the limit
abbrev pub Kept : List ℕ → Limit → Type 0
Kept x l = total x l.terms ≤ l.bound

-- the state keeps every limit
abbrev pub Keeps : List Limit → List ℕ → Type 0
Keeps ls x = AllByRecursion (Kept x) ls

-- the first limit, counted from n, that the state does not keep
abbrev pub broken_from : ℕ → List Limit → List ℕ → Option ℕ
broken_from n [] x = None
broken_from n (l ∷ ls) x = cond (nat_lt l.bound (total x l.terms)) (Some n) (broken_from (n + 1) ls x)

abbrev pub first_broken : List Limit → List ℕ → Option ℕ
first_broken ls x = broken_from 1 ls x
