-- One record further.
use Rattle.std.proofs.Common.{◌≡◌, ℕ, ◌+◌, ◌-◌, ◌<◌, List, [], ◌∷◌, ◌++◌, length, take, set, replicate, Ok, Err, sym, ap, ◌∙◌, refl, arith, length-take}
use Rattle.std.proofs.lemmas.List.{take_more_set, length-replicate}
use Rattle.refusal.specs.declared.Refusal.{Refusal}
use Rattle.refusal.specs.Questions.{Told, turns}
use Rattle.refusal.proofs.Turning.{goes_on, breaks_off}
use Rattle.words.specs.declared.recorded.Recorded.{Recorded}
use Rattle.words.specs.Tables.{written}
use Rattle.words.proofs.Written.{written_push, length_written}
use Rattle.records.specs.Sections.{Reader, Items, next_record}

-- what is left of the records comes to `all`, and the next one is read beside those before it
module _ {A : Type 0} (read : Reader A) (n k : ℕ) (s : Items A) (all : Told (Items A)) (inv : turns (next_record read) (n - k) k s ≡ all) (on : k < n) (before : List A) (is : before ≡ s.items) where
  pub record_stops : {d : Refusal} → Err d ≡ read s.end before → Err d ≡ all
  record_stops e = breaks_off (next_record read) n k s all inv on _ (e ∙ ap (read s.end) is) refl

  pub record_more : {r : Recorded A} (xs : List A) → Ok r ≡ read s.end before → xs ≡ s.items ++ (r.item ∷ []) → turns (next_record read) (n - (k + 1)) (k + 1) (record { items = xs; end = r.end }) ≡ all
  record_more {r} xs e more = goes_on (next_record read) n k s all inv on _ _ (e ∙ ap (read s.end) is) refl (ap (λ ys. Ok (record { items = ys; end = r.end })) (sym more))

-- a table that begins with k items and holds `rest` beyond them, with one item more
pub table_more : {A : Type 0} (n : ℕ) (rest : A) (table : List A) (k : ℕ) (x : A) → k < n → table ≡ written (replicate n rest) 0 (take k table) → (take (k + 1) (set table k x) ≡ take k table ++ (x ∷ [])) × (set table k x ≡ written (replicate n rest) 0 (take (k + 1) (set table k x)))
table_more n rest table k x h e =
    let long : length table ≡ n = ap length e ∙ length_written (replicate n rest) 0 (take k table) ∙ length-replicate n rest in
    let front : take (k + 1) (set table k x) ≡ take k table ++ (x ∷ []) = take_more_set table k x (omega arith) in
    let at : 0 + length (take k table) ≡ k = simp length-take (omega arith) in
    let one : written (replicate n rest) 0 (take k table ++ (x ∷ [])) ≡ set table k x = written_push (replicate n rest) (take k table) 0 x ∙ ap (λ i. set (written (replicate n rest) 0 (take k table)) i x) at ∙ ap (λ ys. set ys k x) (sym e) in
    (front, sym (ap (written (replicate n rest) 0) front ∙ one))
