-- Runs of numbers: read exactly where they stand.
use Rattle.std.proofs.Common.{◌≡◌, ℕ, zero, suc, ◌+◌, ◌-◌, ◌^◌, ◌<◌, List, [], ◌∷◌, ◌++◌, map, length, set, Ok, decimal, sym, refl, ap, ◌∙◌, subst, arith}
use Rattle.words.specs.declared.reading.Reading.{Reading}
use Rattle.refusal.specs.Questions.{Told, then, turns}
use Rattle.refusal.proofs.Turning.{then_parts, ok_same, then_ok}
use Rattle.words.specs.Numbers.{number_at}
use Rattle.words.specs.Spelling.{Spelled}
use Rattle.words.specs.Tables.{written, UpTo}
use Rattle.words.proofs.Due.{number_stands, number_read}

pub spelled_join : (bs : List ℕ) (xs ys : List (List ℕ)) (a b c : ℕ) → Spelled bs a xs b → Spelled bs b ys c → Spelled bs a (xs ++ ys) c
spelled_join bs [] ys a b c h k = subst (λ m. Spelled bs m ys c) (sym h) k
spelled_join bs (x ∷ xs) ys a b c h k = (h.0, h.1, spelled_join bs xs ys h.0 b c h.2 k)

pub spelled_split : (bs : List ℕ) (xs ys : List (List ℕ)) (a c : ℕ) → Spelled bs a (xs ++ ys) c → (b : ℕ) × Spelled bs a xs b × Spelled bs b ys c
spelled_split bs [] ys a c h = (a, refl, h)
spelled_split bs (x ∷ xs) ys a c h = let r = spelled_split bs xs ys h.0 c h.2 in (r.0, (h.0, h.1, r.1), r.2)

-- a state that holds a table and the place where its last number ended
pub record Fills (S : Type 0) (bs : List ℕ) (high : ℕ → ℕ) (f : ℕ → S → Told S) : Type 0 where
  pub end : S → ℕ
  pub table : S → List ℕ
  pub put : ℕ → S → Reading ℕ → S
  pub reads : (k : ℕ) (s : S) → f k s ≡ then (number_at bs (end s) 0 (high k)) (λ n. Ok (put k s n))
  pub ends : (k : ℕ) (s : S) (n : Reading ℕ) → end (put k s n) ≡ n.end
  pub sets : (k : ℕ) (s : S) (n : Reading ℕ) → table (put k s n) ≡ set (table s) k n.value

module _ {S : Type 0} {bs : List ℕ} {high : ℕ → ℕ} {f : ℕ → S → Told S} (F : Fills S bs high f) where
  pub record Filled (n k : ℕ) (s t : S) : Type 0 where
    pub values : List ℕ
    pub long : length values ≡ n
    pub within : UpTo high k values
    pub spelled : Spelled bs (F.end s) (map decimal values) (F.end t)
    pub table : F.table t ≡ written (F.table s) k values

  pub fill_stands : (n k : ℕ) (s t : S) → turns f n k s ≡ Ok t → Filled n k s t
  fill_stands zero k s t h = let e : s ≡ t = ok_same h in record { values = []; long = refl; within = tt; spelled = ap F.end e; table = ap F.table (sym e) }
  fill_stands (suc n) k s t h =
      let p = then_parts (f k s) (turns f n (k + 1)) t h in
      let q = then_parts (number_at bs (F.end s) 0 (high k)) (λ r. Ok (F.put k s r)) p.0 (sym (F.reads k s) ∙ p.1) in
      let is : F.put k s q.0 ≡ p.0 = ok_same q.2 in
      let d = number_stands bs (F.end s) 0 (high k) q.0 q.1 in
      let r = fill_stands n (k + 1) p.0 t p.2 in
      let e : F.end p.0 ≡ q.0.end = ap F.end (sym is) ∙ F.ends k s q.0 in
      record {
        values = q.0.value ∷ r.values;
        long = ap suc r.long;
        within = (d.below, r.within);
        spelled = (q.0.end, d.next, subst (λ a. Spelled bs a (map decimal r.values) (F.end t)) e r.spelled);
        table = r.table ∙ ap (λ x. written x (k + 1) r.values) (ap F.table (sym is) ∙ F.sets k s q.0);
      }

  pub fill_read : ((k : ℕ) → high k < 10 ^ 9) → (vs : List ℕ) (k : ℕ) (s : S) (to : ℕ) → UpTo high k vs → Spelled bs (F.end s) (map decimal vs) to → (t : S) × (turns f (length vs) k s ≡ Ok t) × (F.end t ≡ to) × (F.table t ≡ written (F.table s) k vs)
  fill_read small [] k s to u h = (s, refl, h, refl)
  fill_read small (v ∷ vs) k s to u h =
      let n : Reading ℕ = record { value = v; place = h.0 - length (decimal v); end = h.0 } in
      let got : f k s ≡ Ok (F.put k s n) = F.reads k s ∙ then_ok _ (number_read bs (F.end s) 0 (high k) v h.0 h.1 (omega arith) u.0 (omega (arith, small k, u.0))) in
      let r = fill_read small vs (k + 1) (F.put k s n) to u.1 (subst (λ a. Spelled bs a (map decimal vs) to) (sym (F.ends k s n)) h.2) in
      (r.0, then_ok (turns f (length vs) (k + 1)) got ∙ r.1, r.2, r.3 ∙ ap (λ x. written x (k + 1) vs) (F.sets k s n))
