-- A junction or a link is read exactly where its words stand.
use Rattle.std.proofs.Common.{◌≡◌, ℕ, ◌^◌, ◌<◌, ◌≤◌, eqb, ltb, List, Ok, sym, refl, ap, ◌∙◌, subst, arith}
use Rattle.std.proofs.lemmas.Bool.{cond-true, cond-false, ltb-true, lt-ltb, eqb-false, ne_eqb}
use Rattle.refusal.proofs.Turning.{then_parts, then_ok, ok_same}
use Rattle.words.specs.Numbers.{name_at}
use Rattle.words.proofs.Due.{due, found, name_stands, name_read}
use Rattle.words.specs.declared.recorded.Recorded.{Recorded}
use Rattle.records.proofs.Exactness.{Exact}
use Rattle.network.specs.declared.links.Link.{Link}
use Rattle.network_sheet.specs.Links.{signal_at, SignalSaid, phases_of, fits_ends, link_at, LinkSaid}
use Rattle.network_sheet.proofs.Asked.{passed, passed_not}

pub signal_exact : (bs : List ℕ) → Exact (signal_at bs) (SignalSaid bs)
signal_exact bs = record {
  says = λ before at r h.
      let n = due bs at 1 8 _ r h in
      subst (λ q. SignalSaid bs before at q.item q.end) (ok_same n.2) (record { some = n.1.above; few = n.1.below; words = (n.0.end, n.1.next, refl) });
  reads = λ before at x to s.
      let w = s.words in
      found bs at 1 8 x w.0 _ w.1 s.some s.few (omega (arith, s.few)) ∙ ap (λ e. Ok (record { item = x; end = e })) w.2;
}

record EndsFit (phases : List ℕ) (q r : Recorded Link) : Type 0 where
  same : q ≡ r
  differ : q.item.tail ≡ q.item.head → ⊥
  own_phases : q.item.mask < 2 ^ phases_of phases q.item.head

ends_fit : (phases : List ℕ) (p : ℕ) (q r : Recorded Link) → fits_ends phases p q ≡ Ok r → EndsFit phases q r
ends_fit phases p q r h =
    let l : Link = q.item in
    let apart = passed_not (eqb l.tail l.head) 7 p _ r h in
    let own = passed (ltb l.mask (2 ^ phases_of phases l.head)) 7 p (Ok q) r apart.1 in
    record { same = ok_same own.1; differ = eqb-false l.tail l.head apart.0; own_phases = ltb-true l.mask (2 ^ phases_of phases l.head) own.0 }

module _ (bs phases : List ℕ) (signals : ℕ) (few : signals ≤ 32) where
  link_stands : (before : List Link) (at : ℕ) (r : Recorded Link) → link_at bs phases signals at before ≡ Ok r → LinkSaid bs phases signals before at r.item r.end
  link_stands before at r h =
      let n = then_parts (name_at bs at) _ r h in
      let ns = name_stands bs at n.0 n.1 in
      let tail = due bs n.0.end 0 signals _ r n.2 in
      let head = due bs tail.0.end 1 signals _ r tail.2 in
      let top = due bs head.0.end 1 100000 _ r head.2 in
      let flow = due bs top.0.end 0 100000 _ r top.2 in
      let load = due bs flow.0.end 0 top.0.value _ r flow.2 in
      let mask = due bs load.0.end 0 255 _ r load.2 in
      let q : Recorded Link = record { item = record { name = n.0.value; tail = tail.0.value; head = head.0.value; top = top.0.value; flow = flow.0.value; load = load.0.value; mask = mask.0.value }; end = mask.0.end } in
      let w = ends_fit phases n.0.place q r mask.2 in
      subst (λ u. LinkSaid bs phases signals before at u.item u.end) w.same (record {
        name = ns.text;
        short = ns.short;
        letters = ns.letters;
        good = record { tail = tail.1.below; some_head = head.1.above; head = head.1.below; some_top = top.1.above; top = top.1.below; flow = flow.1.below; load = load.1.below; mask = mask.1.below; differ = w.differ; own_phases = w.own_phases };
        words = (n.0.end, ns.next, (tail.0.end, tail.1.next, (head.0.end, head.1.next, (top.0.end, top.1.next, (flow.0.end, flow.1.next, (load.0.end, load.1.next, (mask.0.end, mask.1.next, refl)))))));
      })

  link_reads : (before : List Link) (at : ℕ) (l : Link) (to : ℕ) → LinkSaid bs phases signals before at l to → link_at bs phases signals at before ≡ Ok (record { item = l; end = to })
  link_reads before at l to s =
      let g = s.good in
      let w0 = s.words in
      let w1 = w0.2 in
      let w2 = w1.2 in
      let w3 = w2.2 in
      let w4 = w3.2 in
      let w5 = w4.2 in
      let w6 = w5.2 in
      then_ok _ (name_read bs at s.name w0.0 s.short w0.1)
      ∙ found bs w0.0 0 signals l.tail w1.0 _ w1.1 (omega arith) g.tail (omega (arith, g.tail))
      ∙ found bs w1.0 1 signals l.head w2.0 _ w2.1 g.some_head g.head (omega (arith, g.head))
      ∙ found bs w2.0 1 100000 l.top w3.0 _ w3.1 g.some_top g.top (omega (arith, g.top))
      ∙ found bs w3.0 0 100000 l.flow w4.0 _ w4.1 (omega arith) g.flow (omega (arith, g.flow))
      ∙ found bs w4.0 0 l.top l.load w5.0 _ w5.1 (omega arith) g.load (omega (arith, g.load, g.top))
      ∙ found bs w5.0 0 255 l.mask w6.0 _ w6.1 (omega arith) g.mask (omega (arith, g.mask))
      ∙ cond-false _ _ _ (ne_eqb l.tail l.head g.differ)
      ∙ cond-true _ _ _ (lt-ltb l.mask (2 ^ phases_of phases l.head) g.own_phases)
      ∙ (λ i. Ok (record { item = record { name = sym s.letters i; tail = l.tail; head = l.head; top = l.top; flow = l.flow; load = l.load; mask = l.mask }; end = w6.2 i }))

  pub link_exact : Exact (link_at bs phases signals) (LinkSaid bs phases signals)
  link_exact = record { says = link_stands; reads = link_reads }
