-- A limit is read exactly where its words say it.
use Rattle.std.proofs.Common.{◌≡◌, ℕ, ◌≤◌, false, List, [], ◌∷◌, length, take, replicate, Ok, decimal, sym, refl, ap, ◌∙◌, subst, ⊎_elim, arith}
use Rattle.std.specs.List.{AllByRecursion}
use Rattle.std.proofs.lemmas.Bool.{cond-true, cond-false, cases_Bool, or_parts, or_from, eqb-false, ne_eqb}
use Rattle.refusal.specs.Questions.{no}
use Rattle.refusal.proofs.Turning.{then_ok, then_parts, ok_same}
use Rattle.words.specs.Spelling.{Next, Spelled}
use Rattle.words.specs.Tables.{written}
use Rattle.words.proofs.Due.{due, found}
use Rattle.words.proofs.Written.{take_tabled}
use Rattle.words.specs.declared.recorded.Recorded.{Recorded}
use Rattle.records.proofs.Exactness.{Exact, table_stands, table_reads, said_words, words_said}
use Rattle.plan.specs.declared.limits.Term.{Term}
use Rattle.plan.specs.declared.limits.Limit.{Limit}
use Rattle.limit_sheet.specs.Limits.{no_term, named_in, repeated, term_at, terms_at, limit_at, term_text, TermOf, Once, LimitSaid}

-- the test for a repeated place tells whether each is named once
named_none : (p : ℕ) (ts : List Term) → named_in p ts ≡ false → AllByRecursion (λ u. u.place ≡ p → ⊥) ts
named_none p [] h = tt
named_none p (t ∷ ts) h = let q = or_parts _ _ h in (eqb-false t.place p q.0, named_none p ts q.1)

none_named : (p : ℕ) (ts : List Term) → AllByRecursion (λ u. u.place ≡ p → ⊥) ts → named_in p ts ≡ false
none_named p [] h = refl
none_named p (t ∷ ts) h = or_from _ _ (ne_eqb t.place p h.0) (none_named p ts h.1)

once_stands : (ts : List Term) → repeated ts ≡ false → Once ts
once_stands [] h = tt
once_stands (t ∷ ts) h = let q = or_parts _ _ h in (named_none t.place ts q.0, once_stands ts q.1)

once_reads : (ts : List Term) → Once ts → repeated ts ≡ false
once_reads [] h = refl
once_reads (t ∷ ts) h = or_from _ _ (none_named t.place ts h.0) (once_reads ts h.1)

module _ (bs : List ℕ) (places : ℕ) (bounded : places ≤ 64) where
  record TermSaid (before : List Term) (at : ℕ) (t : Term) (to : ℕ) : Type 0 where
    good : TermOf places t
    words : Spelled bs at (term_text t) to

  term_stands : (before : List Term) (at : ℕ) (r : Recorded Term) → term_at bs places at before ≡ Ok r → TermSaid before at r.item r.end
  term_stands before at r h =
      let p = due bs at 1 places _ r h in
      let w = due bs p.0.end 1 1000 _ r p.2 in
      subst (λ (u : Recorded Term). TermSaid before at u.item u.end) (ok_same w.2) (record {
        good = record { some_place = p.1.above; place = p.1.below; some_weight = w.1.above; weight = w.1.below };
        words = (p.0.end, p.1.next, (w.0.end, w.1.next, refl));
      })

  term_reads : (before : List Term) (at : ℕ) (t : Term) (to : ℕ) → TermSaid before at t to → term_at bs places at before ≡ Ok (record { item = t; end = to })
  term_reads before at t to h =
      let g = h.good in
      let s = h.words in
      let s2 = s.2 in
      found bs at 1 places t.place s.0 _ s.1 g.some_place g.place (omega (arith, g.place))
      ∙ found bs s.0 1 1000 t.weight s2.0 _ s2.1 g.some_weight g.weight (omega (arith, g.weight))
      ∙ ap (λ e. Ok (record { item = t; end = e })) s2.2

  term_exact : Exact (term_at bs places) TermSaid
  term_exact = record { says = term_stands; reads = term_reads }

  limit_stands : (before : List Limit) (at : ℕ) (r : Recorded Limit) → limit_at bs places at before ≡ Ok r → LimitSaid bs places before at r.item r.end
  limit_stands before at r h =
      let b = due bs at 0 999999999 _ r h in
      let n = due bs b.0.end 1 8 _ r b.2 in
      let q = then_parts (terms_at bs places n.0.end n.0.value) _ r n.2 in
      let d = table_stands (term_at bs places) TermSaid term_exact 8 no_term n.0.end n.0.value q.0 n.1.below q.1 in
      let ts : List Term = d.items in
      let words = said_words TermSaid (TermOf places) bs term_text (λ _ _ _ _ s. (s.good, s.words)) [] n.0.end ts q.0.end d.said in
      let l : Limit = record { bound = b.0.value; count = n.0.value; terms = q.0.item } in
      let whole : Recorded Limit = record { item = l; end = q.0.end } in
      let front : take n.0.value q.0.item ≡ ts = ap (take n.0.value) d.table ∙ take_tabled ts (replicate 8 no_term) n.0.value (sym d.long) (omega (arith, d.long, n.1.below)) in
      ⊎_elim
      (λ bad. absurd (let y : ◌≡◌ {A = ℕ} 0 1 = cc (q.2, cond-true (repeated (take n.0.value q.0.item)) (no 10 b.0.place) (Ok whole) bad) in omega arith))
      (λ good. subst (λ (u : Recorded Limit). LimitSaid bs places before at u.item u.end) (ok_same (sym (cond-false (repeated (take n.0.value q.0.item)) (no 10 b.0.place) (Ok whole) good) ∙ q.2)) (record {
        terms = ts;
        some = omega (arith, d.long, n.1.above);
        few = omega (arith, d.long, n.1.below);
        each = words.0;
        once = once_stands ts (ap repeated (sym front) ∙ good);
        bound = b.1.below;
        count = sym d.long;
        table = d.table;
        words = (b.0.end, b.1.next, (n.0.end, subst (λ v. Next bs b.0.end (decimal v) n.0.end) (sym d.long) n.1.next, words.1));
      }))
      (cases_Bool (repeated (take n.0.value q.0.item)))

  limit_reads : (before : List Limit) (at : ℕ) (l : Limit) (to : ℕ) → LimitSaid bs places before at l to → limit_at bs places at before ≡ Ok (record { item = l; end = to })
  limit_reads before at l to s =
      let w1 = s.words.2 in
      let ts = s.terms in
      let table : List Term = written (replicate 8 no_term) 0 ts in
      let front : take (length ts) table ≡ ts = take_tabled ts (replicate 8 no_term) (length ts) refl s.few in
      let is : record { bound = l.bound; count = length ts; terms = table } ≡ l = λ i. record { bound = l.bound; count = sym s.count i; terms = sym s.table i } in
      let said = words_said TermSaid (TermOf places) bs term_text (λ _ _ _ _ g w. record { good = g; words = w }) [] w1.0 ts to s.each w1.2 in
      found bs at 0 999999999 l.bound s.words.0 _ s.words.1 (omega arith) s.bound (omega (arith, s.bound))
      ∙ found bs s.words.0 1 8 (length ts) w1.0 _ w1.1 s.some s.few (omega (arith, s.few))
      ∙ then_ok _ (table_reads (term_at bs places) TermSaid term_exact 8 no_term w1.0 ts to s.few said)
      ∙ cond-false _ _ _ (ap repeated front ∙ once_reads ts s.once)
      ∙ ap (λ x. Ok (record { item = x; end = to })) is

  -- a limit is accepted exactly where its words say it
  pub limit_exact : Exact (limit_at bs places) (LimitSaid bs places)
  limit_exact = record { says = limit_stands; reads = limit_reads }
