-- One byte further along a sheet.
use Rattle.std.proofs.Common.{◌≡◌, ℕ, ◌+◌, ◌-◌, ◌<◌, ◌≤◌, true, false, cond, List, [], ◌∷◌, length, get_or, take, drop, Ok, sym, ap, ◌∙◌, ⊎_elim, arith, length-drop, length-take}
use Rattle.std.proofs.lemmas.List.{at_drop_more, at_drop_all}
use Rattle.std.proofs.lemmas.Bool.{cond-true, cond-false, cases_Bool, ne_eqb}
use Rattle.refusal.specs.Questions.{no, then}
use Rattle.words.specs.Words.{separator, printable, skipped, ended, numeral, number, name, part, cut, word_from, word_at}

module _ (bs : List ℕ) (i : ℕ) where
  pub skipped_more : i < length bs → separator (get_or bs i 0) ≡ true → skipped (drop i bs) i ≡ skipped (drop (i + 1) bs) (i + 1)
  skipped_more h s = at_drop_more (λ l. skipped l i) bs i 0 h ∙ cond-true _ _ _ s

  pub skipped_stops : i < length bs → separator (get_or bs i 0) ≡ false → skipped (drop i bs) i ≡ i
  skipped_stops h s = at_drop_more (λ l. skipped l i) bs i 0 h ∙ cond-false _ _ _ s

  pub skipped_all : length bs ≤ i → skipped (drop i bs) i ≡ i
  skipped_all h = at_drop_all (λ l. skipped l i) bs i h

  pub ended_more : i < length bs → separator (get_or bs i 0) ≡ false → printable (get_or bs i 0) ≡ true → ended (drop i bs) i ≡ ended (drop (i + 1) bs) (i + 1)
  ended_more h s p = at_drop_more (λ l. ended l i) bs i 0 h ∙ cond-false _ _ _ s ∙ cond-true _ _ _ p

  pub ended_bad : i < length bs → separator (get_or bs i 0) ≡ false → printable (get_or bs i 0) ≡ false → ended (drop i bs) i ≡ no 2 i
  ended_bad h s p = at_drop_more (λ l. ended l i) bs i 0 h ∙ cond-false _ _ _ s ∙ cond-false _ _ _ p

  pub ended_stops : i < length bs → separator (get_or bs i 0) ≡ true → ended (drop i bs) i ≡ Ok i
  ended_stops h s = at_drop_more (λ l. ended l i) bs i 0 h ∙ cond-true _ _ _ s

  pub ended_all : length bs ≤ i → ended (drop i bs) i ≡ Ok i
  ended_all h = at_drop_all (λ l. ended l i) bs i h

ended_range : (l : List ℕ) (p e : ℕ) → ended l p ≡ Ok e → (p ≤ e) × (e ≤ p + length l)
ended_range [] p e h = let q : p ≡ e = cc in omega arith
ended_range (b ∷ l) p e h =
    ⊎_elim
    (λ s. let q : p ≡ e = cc (cond-true (separator b) (Ok p) (cond (printable b) (ended l (p + 1)) (no 2 p)) s) in omega arith)
    (λ s. ⊎_elim
    (λ t. let r = ended_range l (p + 1) e (sym (cond-false (separator b) (Ok p) _ s ∙ cond-true (printable b) _ (no 2 p) t) ∙ h) in omega arith)
    (λ t. let z : ◌≡◌ {A = ℕ} 0 1 = cc (cond-false (separator b) (Ok p) (cond (printable b) (ended l (p + 1)) (no 2 p)) s, cond-false (printable b) (ended l (p + 1)) (no 2 p) t) in omega arith)
    (cases_Bool (printable b)))
    (cases_Bool (separator b))

-- the word from p to e, where e is the end that was found
module _ (bs : List ℕ) (at p e : ℕ) (first : p ≡ skipped (drop at bs) at) (last : Ok e ≡ ended (drop p bs) p) (some : e ≡ p → ⊥) where
  pub ended_within : (p < e) × (e ≤ length bs)
  ended_within = let r = simp length-drop at (ended_range (drop p bs) p e (sym last)) in omega arith

  pub cut_within : p + length (take (e - p) (drop p bs)) ≤ length bs
  cut_within = let h = ended_within in simp (length-take, length-drop) (omega arith)

  pub cut_word : word_at bs at ≡ Ok (part p (take (e - p) (drop p bs)))
  cut_word = ap (word_from bs) (sym first) ∙ ap (λ r. then r (cut bs p)) (sym last) ∙ cond-false _ _ _ (ne_eqb e p some)

  pub cut_number : numeral (take (e - p) (drop p bs)) ≡ true → Ok (number p (take (e - p) (drop p bs))) ≡ word_at bs at
  cut_number h = sym (cut_word ∙ ap Ok (cond-true _ _ _ h))

  pub cut_name : numeral (take (e - p) (drop p bs)) ≡ false → Ok (name p (take (e - p) (drop p bs))) ≡ word_at bs at
  cut_name h = sym (cut_word ∙ ap Ok (cond-false _ _ _ h))
