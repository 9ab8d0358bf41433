-- The reader finds exactly the words that stand in the sheet.
use Rattle.std.proofs.Common.{◌≡◌, ℕ, ◌+◌, ◌-◌, ◌<◌, cond, eqb, List, [], ◌∷◌, ◌++◌, length, take, drop, Ok, sym, refl, ap, ◌∙◌, ⊎_elim, arith, drop-drop}
use lib.Seq.{take-append_seam, drop-append_seam}
use Rattle.std.specs.List.{AllByRecursion}
use Rattle.std.proofs.lemmas.Bool.{cond-true, cond-false, cases_Bool, ne_eqb, eqb-false}
use Rattle.refusal.specs.Questions.{no, then}
use Rattle.refusal.proofs.Turning.{then_parts}
use Rattle.words.specs.Words.{separator, printable, skipped, ended, Part, part, cut, word_from, word_at}
use Rattle.words.specs.Spelling.{Separates, Inner, Closed, Next}

skipped_over : (gap text after : List ℕ) (p : ℕ) → AllByRecursion Separates gap → AllByRecursion Inner text → 0 < length text → skipped (gap ++ (text ++ after)) p ≡ p + length gap
skipped_over [] [] after p a i s = absurd (omega arith)
skipped_over [] (b ∷ text) after p a i s = cond-false _ _ _ i.0.0 ∙ omega arith
skipped_over (g ∷ gap) text after p a i s = cond-true _ _ _ a.0 ∙ skipped_over gap text after (p + 1) a.1 i s ∙ omega arith

ended_over : (text after : List ℕ) (p : ℕ) → AllByRecursion Inner text → Closed after → ended (text ++ after) p ≡ Ok (p + length text)
ended_over [] [] p i c = ap Ok (omega arith)
ended_over [] (b ∷ after) p i c = cond-true _ _ _ c ∙ ap Ok (omega arith)
ended_over (b ∷ text) after p i c = cond-false _ _ _ i.0.0 ∙ cond-true _ _ _ i.0.1 ∙ ended_over text after (p + 1) i.1 c ∙ ap Ok (omega arith)

-- a word that stands there is found
pub next_read : (bs : List ℕ) (at : ℕ) (text : List ℕ) (to : ℕ) → Next bs at text to → word_at bs at ≡ Ok (part (to - length text) text)
next_read bs at text to n =
    let p : ℕ = at + length n.gap in
    let first : skipped (drop at bs) at ≡ p = ap (λ l. skipped l at) n.splits ∙ skipped_over n.gap text n.after at n.apart n.inner n.some in
    let rest : drop p bs ≡ text ++ n.after = sym (drop-drop (length n.gap) at bs) ∙ ap (drop (length n.gap)) n.splits ∙ drop-append_seam n.gap (text ++ n.after) in
    let last : ended (drop p bs) p ≡ Ok to = ap (λ l. ended l p) rest ∙ ended_over text n.after p n.inner n.closed ∙ ap Ok (sym n.ends) in
    let some : to ≡ p → ⊥ = λ e. omega (arith, n.some, n.ends) in
    let size : to - p ≡ length text = omega (arith, n.ends) in
    let at_p : p ≡ to - length text = omega (arith, n.ends) in
    ap (word_from bs) first ∙ ap (λ r. then r (cut bs p)) last ∙ cond-false _ _ _ (ne_eqb to p some) ∙ ap (λ l. Ok (part p (take (to - p) l))) rest ∙ ap (λ k. Ok (part p (take k (text ++ n.after)))) size ∙ ap (λ l. Ok (part p l)) (take-append_seam text n.after) ∙ ap (λ q. Ok (part q text)) at_p

record Skips (l : List ℕ) (p : ℕ) : Type 0 where
  gap : List ℕ
  rest : List ℕ
  splits : l ≡ gap ++ rest
  apart : AllByRecursion Separates gap
  first : skipped l p ≡ p + length gap

skips : (l : List ℕ) (p : ℕ) → Skips l p
skips [] p = record { gap = []; rest = []; splits = refl; apart = tt; first = omega arith }
skips (b ∷ l) p =
    ⊎_elim
    (λ s. let r = skips l (p + 1) in record { gap = b ∷ r.gap; rest = r.rest; splits = ap (λ t. b ∷ t) r.splits; apart = (s, r.apart); first = cond-true _ _ _ s ∙ r.first ∙ omega arith })
    (λ s. record { gap = []; rest = b ∷ l; splits = refl; apart = tt; first = cond-false _ _ _ s ∙ omega arith })
    (cases_Bool (separator b))

record Ends (l : List ℕ) (p e : ℕ) : Type 0 where
  text : List ℕ
  after : List ℕ
  splits : l ≡ text ++ after
  inner : AllByRecursion Inner text
  closed : Closed after
  ends : e ≡ p + length text

ends_at : (l : List ℕ) (p e : ℕ) → ended l p ≡ Ok e → Ends l p e
ends_at [] p e h = let q : p ≡ e = cc in record { text = []; after = []; splits = refl; inner = tt; closed = tt; ends = omega arith }
ends_at (b ∷ l) p e h =
    ⊎_elim
    (λ s.
    let q : p ≡ e = cc (cond-true (separator b) (Ok p) (cond (printable b) (ended l (p + 1)) (no 2 p)) s) in
    record { text = []; after = b ∷ l; splits = refl; inner = tt; closed = s; ends = omega arith })
    (λ s. ⊎_elim
    (λ t.
    let r = ends_at l (p + 1) e (sym (cond-false (separator b) (Ok p) _ s ∙ cond-true (printable b) _ (no 2 p) t) ∙ h) in
    record { text = b ∷ r.text; after = r.after; splits = ap (λ m. b ∷ m) r.splits; inner = ((s, t), r.inner); closed = r.closed; ends = r.ends ∙ omega arith })
    (λ t. absurd (let z : ◌≡◌ {A = ℕ} 0 1 = cc (cond-false (separator b) (Ok p) (cond (printable b) (ended l (p + 1)) (no 2 p)) s, cond-false (printable b) (ended l (p + 1)) (no 2 p) t) in omega arith))
    (cases_Bool (printable b)))
    (cases_Bool (separator b))

-- a word that is found stands there
pub word_stands : (bs : List ℕ) (at : ℕ) (q : Part) → word_at bs at ≡ Ok q → (text : List ℕ) × (to : ℕ) × Next bs at text to × (q ≡ part (to - length text) text)
word_stands bs at q h =
    let k = skips (drop at bs) at in
    let p : ℕ = at + length k.gap in
    let parts = then_parts (ended (drop p bs) p) (cut bs p) q (sym (ap (word_from bs) k.first) ∙ h) in
    let e : ℕ = parts.0 in
    let n = ends_at (drop p bs) p e parts.1 in
    let rest : drop p bs ≡ k.rest = sym (drop-drop (length k.gap) at bs) ∙ ap (drop (length k.gap)) k.splits ∙ drop-append_seam k.gap k.rest in
    let whole : drop at bs ≡ k.gap ++ (n.text ++ n.after) = k.splits ∙ ap (λ l. k.gap ++ l) (sym rest ∙ n.splits) in
    let front : take (e - p) (drop p bs) ≡ n.text = let size : e - p ≡ length n.text = omega (arith, n.ends) in ap (λ m. take m (drop p bs)) size ∙ ap (take (length n.text)) n.splits ∙ take-append_seam n.text n.after in
    let at_p : p ≡ e - length n.text = omega (arith, n.ends) in
    ⊎_elim
    (λ z. absurd (let y : ◌≡◌ {A = ℕ} 0 1 = cc (parts.2, cond-true (eqb e p) (no 3 (length bs)) (Ok (part p (take (e - p) (drop p bs)))) z) in omega arith))
    (λ z.
    let some : e ≡ p → ⊥ = eqb-false e p z in
    let is : Ok (part p (take (e - p) (drop p bs))) ≡ Ok q = sym (cond-false (eqb e p) (no 3 (length bs)) _ z) ∙ parts.2 in
    let same : part p (take (e - p) (drop p bs)) ≡ q = cc in
    (n.text, e, record { gap = k.gap; after = n.after; splits = whole; apart = k.apart; inner = n.inner; some = omega (arith, n.ends, some); closed = n.closed; ends = n.ends }, sym same ∙ ap (part p) front ∙ ap (λ m. part m n.text) at_p))
    (cases_Bool (eqb e p))
