-- A standing is bounded under every lawful model, and one step moves it as a street moves.
use Rattle.std.proofs.Common.{◌≡◌, ℕ, ◌≤◌, min, Bool, true, false, cond, List, length, replicate, sym, refl, ap, ◌∙◌, subst, le_refl, arith}
use Rattle.std.proofs.lemmas.List.{length-replicate}
use Rattle.model.specs.State.{Within, capped, told}
use Rattle.model.specs.Model.{Meaning, Lawful, dark_row, lamps}
use Rattle.model.proofs.State.{length_capped, capped_below, capped_capped, capped_own, told_capped, slice_index_zeros}
use Rattle.street.specs.declared.Showing.{Showing}
use Rattle.street.specs.declared.Showing.TheVariants.{Shown, Dark}
use Rattle.street.specs.declared.standing.Standing.{Standing}
use Rattle.street.specs.Street.{Seen, Bounded, Showed, lamps_after}
use Rattle.street.specs.Standing.{seen_of, fresh_seen, answer_for, moved}

module _ (m : Meaning) (law : Lawful m) where
  few_tops : length m.tops ≤ 64
  few_tops = omega (arith, law.whole_tops)

  few_loads : length m.loads ≤ 64
  few_loads = omega (arith, law.whole_loads)

  -- what is told of capped queues or arrivals is the number or the bound
  pub told_top : (x : List ℕ) (p : ℕ) → told (capped m.tops x) p ≡ min (told x p) (told m.tops p)
  told_top x p = told_capped m.tops few_tops x p

  pub told_load : (x : List ℕ) (p : ℕ) → told (capped m.loads x) p ≡ min (told x p) (told m.loads p)
  told_load x p = told_capped m.loads few_loads x p

  lamps_whole : (r : List ℕ) → length r ≡ 32 → length (lamps m r) ≡ 32
  lamps_whole r n = go (m.legal r)
    where
      go : (b : Bool) → length (cond b r (dark_row m)) ≡ 32
      go true = n
      go false = law.whole_dark

  lamps_legal : (r : List ℕ) → m.legal (lamps m r) ≡ true
  lamps_legal r = go (m.legal r) refl
    where
      go : (b : Bool) → m.legal r ≡ b → m.legal (cond b r (dark_row m)) ≡ true
      go true e = e
      go false e = law.legal_dark

  -- a legal row counts as itself
  lamps_own : (r : List ℕ) → m.legal r ≡ true → lamps m r ≡ r
  lamps_own r e = ap (λ b. cond b r (dark_row m)) e

  pub capped_within : (x : List ℕ) → Within (capped m.loads x) m.loads
  capped_within x = record { size = length_capped m.loads x; below = capped_below m.loads few_loads x }

  pub bounded : (t : Standing) → Bounded m (seen_of m t)
  bounded t =
      record {
        queues = record { size = length_capped m.tops t.queues; below = capped_below m.tops few_tops t.queues };
        row = lamps_whole t.lamps t.row;
        legal = lamps_legal t.lamps;
        arrivals = capped_within t.arrivals;
      }

  -- the lamps of an answer are a legal row
  after_legal : (marked : Bool) (row : List ℕ) → m.legal (lamps_after m (answer_for m marked row) row) ≡ true
  after_legal true row = law.legal_dark
  after_legal false row = go (m.legal row) refl
    where
      go : (b : Bool) → m.legal row ≡ b → m.legal (lamps_after m (cond b Shown Dark) row) ≡ true
      go true e = e
      go false e = law.legal_dark

  -- queues above the tops and arrivals above the loads lead to the same state as capped ones
  next_same : (r x v : List ℕ) → m.next r (capped m.tops x) (capped m.loads v) ≡ m.next r x v
  next_same r x v =
      let a = law.same_next r x v in
      let b = law.same_next r (capped m.tops x) (capped m.loads v) in
      let d = capped_capped m.tops few_tops x in
      let e = capped_capped m.loads few_loads v in
      cc

  pub no_arrivals : capped m.loads (replicate 64 0) ≡ replicate 64 0
  no_arrivals = capped_own m.loads few_loads (replicate 64 0) (length-replicate {A = ℕ} 64 0) (λ k. omega (arith, slice_index_zeros 64 k))

  -- what is seen before the first step
  pub fresh_is : (queues dark : List ℕ) → dark ≡ dark_row m → ◌≡◌ {A = Seen} (record { queues = capped m.tops queues; lamps = lamps m dark; arrivals = capped m.loads (replicate 64 0) }) (fresh_seen m queues)
  fresh_is queues dark l =
      let d = lamps_own (dark_row m) law.legal_dark in
      let z = no_arrivals in
      cc

  -- what is seen after one more step
  pub after_is : (s : Standing) (marked : Bool) (row v : List ℕ) (answer : Showing) → answer ≡ answer_for m marked row → (lit : List ℕ) → lit ≡ lamps_after m answer row → (queues : List ℕ) → queues ≡ m.next lit s.queues v → ◌≡◌ {A = Seen} (record { queues = capped m.tops queues; lamps = lamps m lit; arrivals = capped m.loads v }) (moved m (answer_for m marked row) row (capped m.loads v) (seen_of m s))
  after_is s marked row v answer h lit k queues n =
      let r = lamps_after m (answer_for m marked row) row in
      let d = lamps_own r (after_legal marked row) in
      let u = next_same r s.queues v in
      let w = capped_own m.tops few_tops (m.next r s.queues v) (law.whole_next r s.queues v) (law.within r s.queues v) in
      cc

  -- arrivals equal to the loads are not cut
  pub loads_own : capped m.loads m.loads ≡ m.loads
  loads_own = capped_own m.loads few_loads m.loads law.whole_loads (λ k. le_refl _)

  illegal_dark : (marked : Bool) (row : List ℕ) → m.legal row ≡ false → answer_for m marked row ≡ Dark
  illegal_dark true row e = refl
  illegal_dark false row e = ap (λ b. cond b Shown Dark) e

  -- a step moves a street as every street moves
  pub moved_showed : (marked : Bool) (row v : List ℕ) (s t : Seen) (answer : Showing) → answer ≡ answer_for m marked row → t ≡ moved m (answer_for m marked row) row (capped m.loads v) s → Showed m row s answer t
  moved_showed marked row v s t answer a e =
      record {
        lamps = cc;
        arrivals = subst (λ u. Within u.arrivals m.loads) (sym e) (capped_within v);
        queues = cc;
        illegal = λ h. a ∙ illegal_dark marked row h;
      }
