-- A plan sheet is accepted as exactly the plan that its words say.
use Rattle.std.proofs.Common.{◌≡◌, ℕ, ◌+◌, ◌≤◌, List, [], ◌∷◌, ◌++◌, map, length, length-append, set, replicate, Ok, codes, decimal, sym, refl, ap, ◌∙◌, subst, ⊎_elim, arith}
use Rattle.std.proofs.lemmas.List.{length-map}
use Rattle.std.specs.List.{flat_map, AllByRecursion}
use Rattle.std.proofs.lemmas.Bool.{cond-true, cond-false, cases_Bool}
use Rattle.refusal.specs.Questions.{Told, no, then, turns}
use Rattle.refusal.proofs.Turning.{then_parts, then_ok, ok_same}
use Rattle.model.specs.Model.{Meaning, Lawful}
use Rattle.model.proofs.State.{told_next}
use Rattle.words.specs.declared.reading.Reading.{Reading}
use Rattle.words.specs.declared.recorded.Recorded.{Recorded}
use Rattle.words.specs.Words.{short_sheet}
use Rattle.words.specs.Numbers.{number_at, section_at}
use Rattle.words.specs.Spelling.{Next, Spelled}
use Rattle.words.specs.Tables.{written, tabled, UpTo}
use Rattle.words.proofs.Due.{short_stands, short_read, due, found, section_stands, section_read}
use Rattle.words.proofs.Filling.{Fills, fill_stands, fill_read, spelled_join, spelled_split}
use Rattle.records.specs.Sections.{table_at, Said}
use Rattle.records.proofs.Exactness.{Exact as Exact-record, table_stands, table_reads}
use Rattle.plan_sheet.specs.Plans.{PlanSaid, top_of, queue_at, start_at, mode_at, modes_at, legal_only, row_at, rows_at, start_section, with_rows, rows_section, plan_sheet}
use Rattle.plan_sheet.specs.Says.{RowOf, start_words, rows_words, row_table, Says, Exact}

module _ (m : Meaning) (bs : List ℕ) where
  -- the word from place `at` to `to` is the number of the next place
  record QueueSaid (before : List ℕ) (at queue to : ℕ) : Type 0 where
    top : queue ≤ top_of m (length before)
    next : Next bs at (decimal queue) to

  queue_exact : Lawful m → Exact-record (queue_at m bs) QueueSaid
  queue_exact b = record {
    says = λ before at r h.
        let n = due bs at 0 (top_of m (length before)) _ r h in
        subst (λ (u : Recorded ℕ). QueueSaid before at u.item u.end) (ok_same n.2) (record { top = n.1.below; next = n.1.next });
    reads = λ before at x to s.
        found bs at 0 (top_of m (length before)) x to _ s.next (omega arith) s.top (omega (arith, s.top, b.high_tops (length before), told_next m.tops (length before)));
  }

  queues_said : (before : List ℕ) (at : ℕ) (vs : List ℕ) (to : ℕ) → Said QueueSaid before at vs to → UpTo (top_of m) (length before) vs × Spelled bs at (map decimal vs) to
  queues_said before at [] to s = (tt, s)
  queues_said before at (v ∷ vs) to s =
      let more = queues_said (before ++ (v ∷ [])) s.0 vs to s.2 in
      let one : length (before ++ (v ∷ [])) ≡ length before + 1 = length-append before (v ∷ []) in
      ((s.1.top, subst (λ k. UpTo (top_of m) k vs) one more.0), (s.0, s.1.next, more.1))

  said_queues : (before : List ℕ) (at : ℕ) (vs : List ℕ) (to : ℕ) → UpTo (top_of m) (length before) vs → Spelled bs at (map decimal vs) to → Said QueueSaid before at vs to
  said_queues before at [] to u s = s
  said_queues before at (v ∷ vs) to u s =
      let one : length before + 1 ≡ length (before ++ (v ∷ [])) = sym (length-append before (v ∷ [])) in
      (s.0, record { top = u.0; next = s.1 }, said_queues (before ++ (v ∷ [])) s.0 vs to (subst (λ k. UpTo (top_of m) k vs) one u.1) s.2)

  abbrev row_fills : Fills (Reading (List ℕ)) bs (λ _. 8) (mode_at bs)
  row_fills = record { end = λ s. s.end; table = λ s. s.value; put = λ k s n. record { value = set s.value k n.value; place = n.place; end = n.end }; reads = λ k s. refl; ends = λ k s n. refl; sets = λ k s n. refl }

  -- the words from place `at` to `to` are those of the row
  record RowSaid (before : List (List ℕ)) (at : ℕ) (row : List ℕ) (to : ℕ) : Type 0 where
    values : List ℕ
    lawful : RowOf m values
    spelled : Spelled bs at (map decimal values) to
    table : row ≡ tabled 32 values

  row_stands : (before : List (List ℕ)) (at : ℕ) (r : Recorded (List ℕ)) → row_at m bs at before ≡ Ok r → RowSaid before at r.item r.end
  row_stands before at r h =
      let p = then_parts (modes_at m bs at) (legal_only m) r h in
      let s : Reading (List ℕ) = p.0 in
      let row : Recorded (List ℕ) = record { item = s.value; end = s.end } in
      let no_row : Told (Recorded (List ℕ)) = no 6 s.place in
      let d = fill_stands row_fills m.signals 0 (record { value = replicate 32 0; place = at; end = at }) s p.1 in
      ⊎_elim
      (λ ok.
      let is : row ≡ r = ok_same (sym (cond-true (m.legal s.value) (Ok row) no_row ok) ∙ p.2) in
      subst (λ (u : Recorded (List ℕ)). RowSaid before at u.item u.end) is (record { values = d.values; lawful = record { each = d.long; within = d.within; legal = ap m.legal (sym d.table) ∙ ok }; spelled = d.spelled; table = d.table }))
      (λ no-legal. absurd (let y : ◌≡◌ {A = ℕ} 0 1 = cc (p.2, cond-false (m.legal s.value) (Ok row) no_row no-legal) in omega arith))
      (cases_Bool (m.legal s.value))

  row_reads : (before : List (List ℕ)) (at : ℕ) (row : List ℕ) (to : ℕ) → RowSaid before at row to → row_at m bs at before ≡ Ok (record { item = row; end = to })
  row_reads before at row to s =
      let l = s.lawful in
      let d = fill_read row_fills (λ k. omega arith) s.values 0 (record { value = replicate 32 0; place = at; end = at }) to l.within s.spelled in
      let got : modes_at m bs at ≡ Ok d.0 = ap (λ n. turns (mode_at bs) n 0 (record { value = replicate 32 0; place = at; end = at })) (sym l.each) ∙ d.1 in
      let is : record { item = d.0.value; end = d.0.end } ≡ record { item = row; end = to } = λ i. record { item = (d.3 ∙ sym s.table) i; end = d.2 i } in
      then_ok (legal_only m) got ∙ cond-true _ _ _ (ap m.legal d.3 ∙ l.legal) ∙ ap Ok is

  row_exact : Exact-record (row_at m bs) RowSaid
  row_exact = record { says = row_stands; reads = row_reads }

  -- rows one after the other, by their modes
  record RowsSaid (at : ℕ) (rs : List (List ℕ)) (to : ℕ) : Type 0 where
    rows : List (List ℕ)
    tables : rs ≡ map (tabled 32) rows
    lawful : AllByRecursion (RowOf m) rows
    spelled : Spelled bs at (flat_map (map decimal) rows) to

  rows_said : (before : List (List ℕ)) (at : ℕ) (rs : List (List ℕ)) (to : ℕ) → Said RowSaid before at rs to → RowsSaid at rs to
  rows_said before at [] to s = record { rows = []; tables = refl; lawful = tt; spelled = s }
  rows_said before at (r ∷ rs) to s =
      let one = s.1 in
      let more = rows_said (before ++ (r ∷ [])) s.0 rs to s.2 in
      record {
        rows = one.values ∷ more.rows;
        tables = λ i. one.table i ∷ more.tables i;
        lawful = (one.lawful, more.lawful);
        spelled = spelled_join bs (map decimal one.values) (flat_map (map decimal) more.rows) at s.0 to one.spelled more.spelled;
      }

  said_rows : (before : List (List ℕ)) (at : ℕ) (vs : List (List ℕ)) (to : ℕ) → AllByRecursion (RowOf m) vs → Spelled bs at (flat_map (map decimal) vs) to → Said RowSaid before at (map (tabled 32) vs) to
  said_rows before at [] to l s = s
  said_rows before at (v ∷ vs) to l s =
      let p = spelled_split bs (map decimal v) (flat_map (map decimal) vs) at to s in
      (p.0, record { values = v; lawful = l.0; spelled = p.1; table = refl }, said_rows (before ++ (tabled 32 v ∷ [])) p.0 vs to l.1 p.2)

  record StartSaid (s : Recorded (List ℕ)) : Type 0 where
    queues : List ℕ
    long : length queues ≡ m.places
    tops : UpTo (top_of m) 0 queues
    spelled : Spelled bs 0 (start_words queues) s.end
    table : s.item ≡ tabled 64 queues

  start_stands : Lawful m → (s : Recorded (List ℕ)) → start_section m bs ≡ Ok s → StartSaid s
  start_stands b s h =
      let p = then_parts (section_at bs 0 (codes "start")) (λ a. then (number_at bs a m.places m.places) (λ n. start_at m bs n.end)) s h in
      let q = due bs p.0 m.places m.places (λ n. start_at m bs n.end) s p.2 in
      let d = table_stands (queue_at m bs) QueueSaid (queue_exact b) 64 0 q.0.end m.places s b.few_places q.2 in
      let w = queues_said [] q.0.end d.items s.end d.said in
      let counted : q.0.value ≡ length d.items = omega (arith, q.1.above, q.1.below, d.long) in
      record {
        queues = d.items;
        long = d.long;
        tops = w.0;
        spelled = (p.0, section_stands bs 0 (codes "start") p.0 p.1, (q.0.end, subst (λ v. Next bs p.0 (decimal v) q.0.end) counted q.1.next, w.1));
        table = d.table;
      }

  start_read : Lawful m → (vs : List ℕ) (to : ℕ) → length vs ≡ m.places → UpTo (top_of m) 0 vs → Spelled bs 0 (start_words vs) to → start_section m bs ≡ Ok (record { item = tabled 64 vs; end = to })
  start_read b vs to long tops h =
      let a : ℕ = h.0 in
      let rest = h.2 in
      let named : section_at bs 0 (codes "start") ≡ Ok a = section_read bs 0 (codes "start") a refl h.1 in
      then_ok _ named
      ∙ found bs a m.places m.places (length vs) rest.0 (λ r. start_at m bs r.end) rest.1 (omega (arith, long)) (omega (arith, long)) (omega (arith, long, b.few_places))
      ∙ ap (table_at (queue_at m bs) 64 0 rest.0) (sym long)
      ∙ table_reads (queue_at m bs) QueueSaid (queue_exact b) 64 0 rest.0 vs to (omega (arith, long, b.few_places)) (said_queues [] rest.0 vs to tops rest.2)

  record SectionSaid (s : Recorded (List ℕ)) (p : PlanSaid) : Type 0 where
    rows : List (List ℕ)
    some : 1 ≤ length rows
    few : length rows ≤ 64
    lawful : AllByRecursion (RowOf m) rows
    spelled : Spelled bs s.end (rows_words rows) p.end
    start : p.start ≡ s.item
    table : p.rows ≡ row_table rows
    count : p.count ≡ length rows

  section_said : (s : Recorded (List ℕ)) (p : PlanSaid) → rows_section m bs s ≡ Ok p → SectionSaid s p
  section_said s p h =
      let a = then_parts (section_at bs s.end (codes "rows")) (λ a. then (number_at bs a 1 64) (λ n. with_rows m bs s n.end n.value)) p h in
      let n = due bs a.0 1 64 (λ n. with_rows m bs s n.end n.value) p a.2 in
      let r = then_parts (rows_at m bs n.0.end n.0.value) (λ r. Ok (record { start = s.item; rows = r.item; count = n.0.value; end = r.end })) p n.2 in
      let d = table_stands (row_at m bs) RowSaid row_exact 64 (replicate 32 0) n.0.end n.0.value r.0 n.1.below r.1 in
      let w = rows_said [] n.0.end d.items r.0.end d.said in
      let long : length w.rows ≡ n.0.value = sym (length-map w.rows (tabled 32)) ∙ ap length (sym w.tables) ∙ d.long in
      subst (SectionSaid s) (ok_same r.2) (record {
        rows = w.rows;
        some = omega (arith, n.1.above, long);
        few = omega (arith, n.1.below, long);
        lawful = w.lawful;
        spelled = (a.0, section_stands bs s.end (codes "rows") a.0 a.1, (n.0.end, subst (λ v. Next bs a.0 (decimal v) n.0.end) (sym long) n.1.next, w.spelled));
        start = refl;
        table = d.table ∙ ap (written (replicate 64 (replicate 32 0)) 0) w.tables;
        count = sym long;
      })

  section_back : (s : Recorded (List ℕ)) (rs : List (List ℕ)) (to : ℕ) → 1 ≤ length rs → length rs ≤ 64 → AllByRecursion (RowOf m) rs → Spelled bs s.end (rows_words rs) to → rows_section m bs s ≡ Ok (record { start = s.item; rows = row_table rs; count = length rs; end = to })
  section_back s rs to some few lawful h =
      let a : ℕ = h.0 in
      let rest = h.2 in
      let tables : List (List ℕ) = map (tabled 32) rs in
      let long : length tables ≡ length rs = length-map rs (tabled 32) in
      let named : section_at bs s.end (codes "rows") ≡ Ok a = section_read bs s.end (codes "rows") a refl h.1 in
      let read : rows_at m bs rest.0 (length rs) ≡ Ok (record { item = row_table rs; end = to }) =
      ap (table_at (row_at m bs) 64 (replicate 32 0) rest.0) (sym long)
      ∙ table_reads (row_at m bs) RowSaid row_exact 64 (replicate 32 0) rest.0 tables to (omega (arith, long)) (said_rows [] rest.0 rs to lawful rest.2) in
      then_ok _ named
      ∙ found bs a 1 64 (length rs) rest.0 (λ n. with_rows m bs s n.end n.value) rest.1 some few (omega arith)
      ∙ then_ok _ read

  sections_say : Lawful m → (p : PlanSaid) → length bs ≤ 65535 → then (start_section m bs) (rows_section m bs) ≡ Ok p → Says m bs p
  sections_say b p short h =
      let a = then_parts (start_section m bs) (rows_section m bs) p h in
      let s = start_stands b a.0 a.1 in
      let r = section_said a.0 p a.2 in
      record {
        queues = s.queues;
        rows = r.rows;
        short = short;
        places = s.long;
        tops = s.tops;
        some = r.some;
        few = r.few;
        lawful = r.lawful;
        words = spelled_join bs (start_words s.queues) (rows_words r.rows) 0 a.0.end p.end s.spelled r.spelled;
        start = r.start ∙ s.table;
        table = r.table;
        count = r.count;
      }

  says_sections : Lawful m → (p : PlanSaid) → Says m bs p → then (start_section m bs) (rows_section m bs) ≡ Ok p
  says_sections b p s =
      let w = spelled_split bs (start_words s.queues) (rows_words s.rows) 0 p.end s.words in
      let started = start_read b s.queues w.0 s.places s.tops w.1 in
      let read : PlanSaid = record { start = tabled 64 s.queues; rows = row_table s.rows; count = length s.rows; end = p.end } in
      let is : read ≡ p = λ i. record { start = sym s.start i; rows = sym s.table i; count = sym s.count i; end = p.end } in
      then_ok (rows_section m bs) started ∙ section_back (record { item = tabled 64 s.queues; end = w.0 }) s.rows p.end s.some s.few s.lawful w.2 ∙ ap Ok is

  pub exactly : Lawful m → Exact m bs (plan_sheet m bs)
  exactly b p = (
    λ h. let q = then_parts (short_sheet bs) (λ _. then (start_section m bs) (rows_section m bs)) p h in sections_say b p (short_stands bs q.1) q.2,
    λ s. then_ok _ (short_read bs s.short) ∙ says_sections b p s,
  )

  pub exact_at : Lawful m → (t : Told PlanSaid) → t ≡ plan_sheet m bs → Exact m bs t
  exact_at b t e = subst (Exact m bs) (sym e) (exactly b)
