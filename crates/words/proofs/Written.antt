-- Values written over a table.
use Rattle.std.proofs.Common.{◌≡◌, ℕ, ◌+◌, ◌≤◌, List, [], ◌∷◌, ◌++◌, length, take, drop, set, sym, refl, ap, ◌∙◌, append_assoc, arith}
use Rattle.std.proofs.lemmas.List.{take_more_set, take-append-drop, drop-set-lt, append-nil, length-set}
use Rattle.words.specs.Tables.{written}

-- values written from k on, between what stood before them and what stands from n on
written_within : {A : Type 0} (xs vs : List A) (k n : ℕ) → n ≡ k + length vs → n ≤ length xs → take k xs ++ (vs ++ drop n xs) ≡ written xs k vs
written_within xs [] k n e h = let z : n ≡ k = omega arith in ap (λ i. take k xs ++ drop i xs) z ∙ take-append-drop k xs
written_within xs (v ∷ vs) k n e h =
    sym (append_assoc (take k xs) (v ∷ []) (vs ++ drop n xs))
    ∙ ap (λ ys. ys ++ (vs ++ drop n xs)) (sym (take_more_set xs k v (omega arith)))
    ∙ ap (λ ys. take (k + 1) (set xs k v) ++ (vs ++ ys)) (sym (drop-set-lt n xs k v (omega arith)))
    ∙ written_within (set xs k v) vs (k + 1) n (omega arith) (omega (arith, length-set xs k v))

-- values written from the start, before what stands beyond them
pub written_front : {A : Type 0} (xs vs : List A) → length vs ≤ length xs → vs ++ drop (length vs) xs ≡ written xs 0 vs
written_front xs vs h = written_within xs vs 0 (length vs) (omega arith) h

-- one value more
pub written_push : {A : Type 0} (xs vs : List A) (i : ℕ) (v : A) → written xs i (vs ++ (v ∷ [])) ≡ set (written xs i vs) (i + length vs) v
written_push xs [] i v = let e : i ≡ i + 0 = omega arith in ap (λ k. set xs k v) e
written_push xs (u ∷ vs) i v =
    let e : i + 1 + length vs ≡ i + length (u ∷ vs) = omega arith in
    written_push (set xs i u) vs (i + 1) v ∙ ap (λ k. set (written (set xs i u) (i + 1) vs) k v) e

-- the front of a table with values written over it
pub take_written : {A : Type 0} (vs xs : List A) (k : ℕ) → k + length vs ≤ length xs → take (k + length vs) (written xs k vs) ≡ take k xs ++ vs
take_written [] xs k h = let e : k + 0 ≡ k = omega arith in ap (λ n. take n xs) e ∙ sym (append-nil (take k xs))
take_written (v ∷ vs) xs k h =
    let e : k + length (v ∷ vs) ≡ k + 1 + length vs = omega arith in
    ap (λ n. take n (written (set xs k v) (k + 1) vs)) e
    ∙ take_written vs (set xs k v) (k + 1) (omega (arith, length-set xs k v))
    ∙ ap (λ ys. ys ++ vs) (take_more_set xs k v (omega arith))
    ∙ append_assoc (take k xs) (v ∷ []) vs

-- values written from the start are the front of the table
pub take_tabled : {A : Type 0} (vs xs : List A) (n : ℕ) → n ≡ length vs → length vs ≤ length xs → take n (written xs 0 vs) ≡ vs
take_tabled vs xs n e h = let z : n ≡ 0 + length vs = omega arith in ap (λ m. take m (written xs 0 vs)) z ∙ take_written vs xs 0 (omega arith)

pub length_written : {A : Type 0} (xs : List A) (i : ℕ) (vs : List A) → length (written xs i vs) ≡ length xs
length_written xs i [] = refl
length_written xs i (v ∷ vs) = length_written (set xs i v) (i + 1) vs ∙ length-set xs i v
