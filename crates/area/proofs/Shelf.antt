-- The shelf as it is held, and as it is meant.
use Rattle.std.proofs.Common.{◌≡◌, ℕ, zero, suc, pred, ◌+◌, ◌-◌, ◌≤◌, List, length, get_or, set, Some, None, Option, sym, ap, ◌∙◌, add-one, arith}
use Rattle.std.proofs.lemmas.List.{get_or-map, map-set}
use Rattle.plan.specs.declared.plan.Plan.{Plan}
use Rattle.plan.specs.Check.{timing_of}
use Rattle.lives.specs.Area.{slot}
use Rattle.area.specs.Code.{timing_in, shelf_of}

-- what stands under a number
pub slot_in : (plans : List (Option Plan)) (n : ℕ) (d : Option Plan) → 1 ≤ n → n ≤ length plans → timing_in (get_or plans (n - 1) d) ≡ slot (shelf_of plans) n
slot_in plans zero d l h = absurd (omega arith)
slot_in plans (suc k) d l h =
    let e : suc k - 1 ≡ k = omega arith in
    ap (λ i. timing_in (get_or plans i d)) e ∙ sym (get_or-map timing_in plans k d None (omega arith))

-- a plan more under a number, at the place before it
pub put_in :
    (plans : List (Option Plan)) (n k : ℕ) (p : Plan) → n ≡ k + 1
    → shelf_of (set plans k (Some p)) ≡ set (shelf_of plans) (pred n) (Some (timing_of p))
put_in plans n k p e = rw (e, add-one) (map-set timing_in plans k (Some p))
