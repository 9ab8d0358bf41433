-- The words of a sheet end within it.
use Rattle.std.proofs.Common.{◌≡◌, ℕ, ◌+◌, ◌-◌, ◌<◌, ◌≤◌, List, [], ◌∷◌, ◌++◌, map, length, drop, codes, decimal, sym, ap, ◌∙◌, arith, length-append, length-drop}
use Rattle.model.specs.Model.{Meaning}
use Rattle.words.specs.Spelling.{Next, Spelled}
use Rattle.plan_sheet.specs.Plans.{PlanSaid}
use Rattle.plan_sheet.specs.Says.{Says, rows_words}

next_within : (bs : List ℕ) (at : ℕ) (text : List ℕ) (to : ℕ) → Next bs at text to → (at < length bs) × (to ≤ length bs)
next_within bs at text to n =
    let long : length bs - at ≡ length n.gap + (length text + length n.after) =
    sym (length-drop at bs) ∙ ap length n.splits ∙ length-append n.gap (text ++ n.after) ∙ ap (λ k. length n.gap + k) (length-append text n.after) in
    (omega (arith, long, n.some), omega (arith, long, n.some, n.ends))

spelled_within : (bs : List ℕ) (ws : List (List ℕ)) (at to : ℕ) → at ≤ length bs → Spelled bs at ws to → to ≤ length bs
spelled_within bs [] at to l h = omega (arith, l, h)
spelled_within bs (w ∷ ws) at to l h = spelled_within bs ws h.0 to (next_within bs at w h.0 h.1).1 h.2

-- a plan sheet from place `at` on ends within the whole
pub plan_within : (m : Meaning) (bs sheet : List ℕ) (at : ℕ) (p : PlanSaid) → sheet ≡ drop at bs → Says m sheet p → at + p.end ≤ length bs
plan_within m bs sheet at p e s =
    let first = next_within sheet 0 (codes "start") s.words.0 s.words.1 in
    let last = spelled_within sheet (decimal (length s.queues) ∷ (map decimal s.queues ++ rows_words s.rows)) s.words.0 p.end first.1 s.words.2 in
    let long : length sheet ≡ length bs - at = ap length e ∙ length-drop at bs in
    omega (arith, first.0, last, long)
