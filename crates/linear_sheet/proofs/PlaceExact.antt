-- The modes, a place and an entry are read exactly where their words stand.
use Rattle.std.proofs.Common.{◌≡◌, ℕ, ◌-◌, List, length, Ok, codes, decimal, refl, ap, ◌∙◌, subst, arith}
use Rattle.refusal.proofs.Turning.{then_parts, then_ok, ok_same}
use Rattle.words.specs.declared.reading.Reading.{Reading}
use Rattle.words.specs.Numbers.{number_at, section_at}
use Rattle.words.proofs.Due.{due, found, number_stands, number_read, section_stands, section_read}
use Rattle.records.proofs.Exactness.{Exact}
use Rattle.linear_sheet.specs.Places.{place_at, entry_at, PlaceSaid, EntrySaid}
use Rattle.linear_sheet.specs.Linear.{modes_section}
use Rattle.linear_sheet.specs.Says.{ModesSaid}

pub modes_stand : (bs : List ℕ) (at : ℕ) (n : Reading ℕ) → modes_section bs at ≡ Ok n → ModesSaid bs at n.value n.end
modes_stand bs at n h =
    let p = then_parts (section_at bs at (codes "modes")) (λ a. number_at bs a 1 8) n h in
    let c = number_stands bs p.0 1 8 n p.2 in
    record { named = p.0; word_stands = section_stands bs at (codes "modes") p.0 p.1; count_stands = c.next; some = c.above; few = c.below }

pub modes_read : (bs : List ℕ) (at modes to : ℕ) → ModesSaid bs at modes to → modes_section bs at ≡ Ok (record { value = modes; place = to - length (decimal modes); end = to })
modes_read bs at modes to s =
    then_ok _ (section_read bs at (codes "modes") s.named refl s.word_stands)
    ∙ number_read bs s.named 1 8 modes to s.count_stands s.some s.few (omega (arith, s.few))

pub place_exact : (bs : List ℕ) → Exact (place_at bs) (PlaceSaid bs)
place_exact bs = record {
  says = λ before at r h.
      let top = due bs at 1 100000 _ r h in
      let load = due bs top.0.end 0 top.0.value _ r top.2 in
      subst (λ q. PlaceSaid bs before at q.item q.end) (ok_same load.2) (record {
        some_top = top.1.above;
        top = top.1.below;
        load = load.1.below;
        words = (top.0.end, top.1.next, (load.0.end, load.1.next, refl));
      });
  reads = λ before at x to s.
      let w0 = s.words in
      let w1 = w0.2 in
      found bs at 1 100000 x.top w0.0 _ w0.1 s.some_top s.top (omega (arith, s.top))
      ∙ found bs w0.0 0 x.top x.load w1.0 _ w1.1 (omega arith) s.load (omega (arith, s.load, s.top))
      ∙ ap (λ e. Ok (record { item = x; end = e })) w1.2;
}

pub entry_exact : (bs : List ℕ) → Exact (entry_at bs) (EntrySaid bs)
entry_exact bs = record {
  says = λ before at r h.
      let n = due bs at 0 10000 _ r h in
      subst (λ q. EntrySaid bs before at q.item q.end) (ok_same n.2) (record { small = n.1.below; words = (n.0.end, n.1.next, refl) });
  reads = λ before at x to s.
      let w = s.words in
      found bs at 0 10000 x w.0 _ w.1 (omega arith) s.small (omega (arith, s.small)) ∙ ap (λ e. Ok (record { item = x; end = e })) w.2;
}
