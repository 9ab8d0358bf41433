-- The lines of a day, one call after the other.
use Rattle.std.proofs.Common.{◌≡◌, ℕ, ◌+◌, ◌<◌, ◌≤◌, Bool, true, List, [], ◌∷◌, ◌++◌, length, get_or, drop, is_ok, IfOk, Some, None, Ok, Err, Option, Result, sym, refl, ap, ◌∙◌, subst, append_assoc, append-nil}
use Rattle.std.specs.Result.{result_and}
use Rattle.std.proofs.lemmas.List.{at_drop_more, drop_all}
use Rattle.model.specs.Model.{Meaning}
use Rattle.street.specs.Street.{Seen}
use Rattle.plan.specs.declared.limits.Limit.{Limit}
use Rattle.lives.specs.Area.{Area}
use Rattle.lives.specs.Calls.{Call}
use Rattle.area.specs.declared.area.Area.{Area as AreaCode}
use Rattle.area.specs.Code.{area_of, limits_of}
use Rattle.day.specs.declared.call.DayCall.{DayCall}
use Rattle.day.specs.declared.run.Done.{Done}
use Rattle.day.specs.Day.{DaySaid}
use Rattle.day.specs.Running.{area_call, RanAs}
use Rattle.day.specs.Text.{line_text}
use Rattle.day.specs.Whole.{Runs, Lines, LineRun, SoFar, fresh_area}

-- what is said of an answer that came out well
pub where_ok : {X E : Type 0} (r : Result X E) (P : Type 0) → IfOk r (λ _. P) → is_ok r ≡ true → P
where_ok (Ok x) P p e = p
where_ok (Err y) P p e = cc

-- two answers that both came out well
pub both_ok : {X Y E : Type 0} (r : Result X E) (q : Result Y E) → is_ok (result_and r q) ≡ true → (is_ok r ≡ true) × (is_ok q ≡ true)
both_ok (Ok x) q e = (refl, e)
both_ok (Err y) q e = cc

module _ {S : Type 0} (meaning : S → Meaning) (seen : S → Seen) where
  -- a call of the area as it is held, and as it is meant
  pub ran_runs : (q : Option Call) (call : DayCall) (a : AreaCode S) (h : Option ℕ) (r : Done) (b : AreaCode S) (k : Option ℕ) → RanAs meaning seen q call a h r b k → Runs (meaning a.street) (limits_of a) q call (area_of seen a) h r (area_of seen b) k
  ran_runs (Some c) call a h r b k x = (x.0, x.1.does, x.2, x.3)
  ran_runs None call a h r b k x = (ap (area_of seen) x.0, x.1, x.2)

  pub ran_model : (q : Option Call) (call : DayCall) (a : AreaCode S) (h : Option ℕ) (r : Done) (b : AreaCode S) (k : Option ℕ) → RanAs meaning seen q call a h r b k → meaning b.street ≡ meaning a.street
  ran_model (Some c) call a h r b k x = x.1.model
  ran_model None call a h r b k x = ap (λ y. meaning y.street) x.0

  pub ran_limits : (q : Option Call) (call : DayCall) (a : AreaCode S) (h : Option ℕ) (r : Done) (b : AreaCode S) (k : Option ℕ) → RanAs meaning seen q call a h r b k → limits_of b ≡ limits_of a
  ran_limits (Some c) call a h r b k x = x.1.limits
  ran_limits None call a h r b k x = ap limits_of x.0

  module _ (bs : List ℕ) (places : ℕ) (calls : List DayCall) (a : AreaCode S) (i : ℕ) (b : AreaCode S) (k : Option ℕ) (out : List ℕ) (all : Bool) (s : SoFar meaning seen bs places calls a i b k out all) where
    -- one call more
    pub so_far_more : (d call : DayCall) (c : AreaCode S) (n : Option ℕ) (next : List ℕ) (still : Bool) → i < length calls → call ≡ get_or calls i d → LineRun meaning seen bs places call b k out all c n next still → SoFar meaning seen bs places calls a (i + 1) c n next still
    so_far_more d call c n next still l is x =
        let m : Meaning = meaning a.street in
        let ls : List Limit = limits_of a in
        record {
          safe = x.safe;
          model = x.model ∙ s.model;
          limits = x.limits ∙ s.limits;
          lines = λ w text rest.
              let one = x.line w in
              let line : List ℕ = line_text call one.0 (area_of seen c).book places in
              let runs : Runs m ls (area_call bs call k) call (area_of seen b) k one.0 (area_of seen c) n =
              subst (λ y. Runs y ls (area_call bs call k) call (area_of seen b) k one.0 (area_of seen c) n) s.model
              (subst (λ y. Runs (meaning b.street) y (area_call bs call k) call (area_of seen b) k one.0 (area_of seen c) n) s.limits one.1) in
              let here : Lines m ls bs places (call ∷ drop (i + 1) calls) (area_of seen b) k (line ++ text) = (one.0, area_of seen c, n, text, runs, refl, rest) in
              let left : call ∷ drop (i + 1) calls ≡ drop i calls = ap (λ y. y ∷ drop (i + 1) calls) is ∙ sym (at_drop_more (λ xs. xs) calls i d l) in
              let joined : out ++ (line ++ text) ≡ next ++ text = sym (ap (λ o. o ++ text) one.2 ∙ append_assoc out line text) in
              subst (Lines m ls bs places calls (area_of seen a) None) joined
              (s.lines (x.all w) (line ++ text) (subst (λ xs. Lines m ls bs places xs (area_of seen b) k (line ++ text)) left here));
        }

    -- no call more
    pub so_far_all : length calls ≤ i → all ≡ true → Lines (meaning a.street) (limits_of a) bs places calls (area_of seen a) None out
    so_far_all l w =
        let m : Meaning = meaning a.street in
        let ls : List Limit = limits_of a in
        subst (Lines m ls bs places calls (area_of seen a) None) (append-nil out)
        (s.lines w [] (subst (λ xs. Lines m ls bs places xs (area_of seen b) k []) (sym (drop_all i calls l)) refl))

-- the lines from a fresh area, by what it was made of
pub fresh_lines : (m n : Meaning) (ls ks : List Limit) (bs : List ℕ) (places : ℕ) (d : DaySaid) (calls : List DayCall) (a : Area) (text : List ℕ) → n ≡ m → ks ≡ ls → places ≡ m.places → calls ≡ d.calls → a ≡ fresh_area m d → Lines n ks bs places calls a None text → Lines m ls bs m.places d.calls (fresh_area m d) None text
fresh_lines m n ls ks bs places d calls a text model limits count list fresh x =
    subst (λ y. Lines y ls bs m.places d.calls (fresh_area m d) None text) model
    (subst (λ y. Lines n y bs m.places d.calls (fresh_area m d) None text) limits
    (subst (λ y. Lines n ks bs y d.calls (fresh_area m d) None text) count
    (subst (λ y. Lines n ks bs places y (fresh_area m d) None text) list
    (subst (λ y. Lines n ks bs places calls y None text) fresh x))))
