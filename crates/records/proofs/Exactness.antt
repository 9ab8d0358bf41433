-- A section is read exactly where it stands.
use Rattle.std.proofs.Common.{◌≡◌, ℕ, zero, suc, ◌+◌, ◌^◌, ◌<◌, ◌≤◌, min, false, List, [], ◌∷◌, ◌++◌, length, get_or, replicate, Ok, Err, decimal, Result, sym, refl, ap, ◌∙◌, subst, inl, inr, append_assoc, arith}
use Rattle.std.specs.List.{flat_map, AllByRecursion}
use Rattle.std.proofs.ByRecursion.{All-get_or}
use Rattle.refusal.specs.Questions.{Told, then, turns}
use Rattle.refusal.proofs.Turning.{then_ok, then_parts, ok_same}
use Rattle.words.specs.Words.{numeral}
use Rattle.words.specs.Numbers.{number_at, section_at}
use Rattle.words.specs.Spelling.{Next, Spelled}
use Rattle.words.specs.Tables.{written}
use Rattle.words.proofs.Due.{number_stands, number_read, section_stands, section_read}
use Rattle.words.proofs.Filling.{spelled_join, spelled_split}
use Rattle.words.specs.declared.recorded.Recorded.{Recorded}
use Rattle.records.specs.declared.fault.ModelFault.{ModelFault}
use Rattle.records.specs.declared.fault.ModelFault.TheVariants.{Sheet, Memory}
use Rattle.records.specs.Sections.{Reader, Items, next_record, records_at, table_of, table_at, section_of, Saying, Said, Section, ToldAs, Exactly}

-- a record is accepted exactly where it says what was read
pub record Exact {A : Type 0} (read : Reader A) (R : Saying A) : Type 0 where
  pub says : (before : List A) (at : ℕ) (r : Recorded A) → read at before ≡ Ok r → R before at r.item r.end
  pub reads : (before : List A) (at : ℕ) (x : A) (to : ℕ) → R before at x to → read at before ≡ Ok (record { item = x; end = to })

module _ {A : Type 0} (read : Reader A) (R : Saying A) (exact : Exact read R) where
  record Followed (n : ℕ) (s t : Items A) : Type 0 where
    more : List A
    long : length more ≡ n
    all : t.items ≡ s.items ++ more
    said : Said R s.items s.end more t.end

  append_none : (xs : List A) → xs ≡ xs ++ []
  append_none [] = refl
  append_none (x ∷ xs) = ap (λ ys. x ∷ ys) (append_none xs)

  records_stand : (n k : ℕ) (s t : Items A) → turns (next_record read) n k s ≡ Ok t → Followed n s t
  records_stand zero k s t h =
      let e : s ≡ t = ok_same h in
      record { more = []; long = refl; all = ap (λ u. u.items) (sym e) ∙ append_none s.items; said = ap (λ u. u.end) e }
  records_stand (suc n) k s t h =
      let p = then_parts (next_record read k s) (turns (next_record read) n (k + 1)) t h in
      let q = then_parts (read s.end s.items) (λ r. Ok (record { items = s.items ++ (r.item ∷ []); end = r.end })) p.0 p.1 in
      let one : A = q.0.item in
      let is : record { items = s.items ++ (one ∷ []); end = q.0.end } ≡ p.0 = ok_same q.2 in
      let rest = records_stand n (k + 1) p.0 t p.2 in
      record {
        more = one ∷ rest.more;
        long = ap suc rest.long;
        all = rest.all ∙ ap (λ u. u.items ++ rest.more) (sym is) ∙ append_assoc s.items (one ∷ []) rest.more;
        said = (q.0.end, exact.says s.items s.end q.0 q.1, subst (λ u. Said R u.items u.end rest.more t.end) (sym is) rest.said);
      }

  records_read : (xs : List A) (k : ℕ) (s : Items A) (to : ℕ) → Said R s.items s.end xs to → turns (next_record read) (length xs) k s ≡ Ok (record { items = s.items ++ xs; end = to })
  records_read [] k s to h = λ i. Ok (record { items = append_none s.items i; end = h i })
  records_read (x ∷ xs) k s to h =
      let t : Items A = record { items = s.items ++ (x ∷ []); end = h.0 } in
      let got : next_record read k s ≡ Ok t = then_ok _ (exact.reads s.items s.end x h.0 h.1) in
      then_ok (turns (next_record read) (length xs) (k + 1)) got
      ∙ records_read xs (k + 1) t to h.2
      ∙ ap (λ ys. Ok (record { items = ys; end = to })) (append_assoc s.items (x ∷ []) xs)

  -- a table that was read: its items, one after the other, and `rest` beyond them
  pub record Tabled (n : ℕ) (rest : A) (at count : ℕ) (t : Recorded (List A)) : Type 0 where
    pub items : List A
    pub long : length items ≡ count
    pub said : Said R [] at items t.end
    pub table : t.item ≡ written (replicate n rest) 0 items

  pub table_stands : (n : ℕ) (rest : A) (at count : ℕ) (t : Recorded (List A)) → count ≤ n → table_at read n rest at count ≡ Ok t → Tabled n rest at count t
  table_stands n rest at count t few h =
      let p = then_parts (records_at read at (min count n)) (λ s. Ok (table_of n rest s)) t h in
      let d = records_stand (min count n) 0 (record { items = []; end = at }) p.0 p.1 in
      subst (Tabled n rest at count) (ok_same p.2) (record {
        items = p.0.items;
        long = ap length d.all ∙ d.long ∙ omega arith;
        said = subst (λ xs. Said R [] at xs p.0.end) (sym d.all) d.said;
        table = refl;
      })

  pub table_reads : (n : ℕ) (rest : A) (at : ℕ) (xs : List A) (to : ℕ) → length xs ≤ n → Said R [] at xs to → table_at read n rest at (length xs) ≡ Ok (record { item = written (replicate n rest) 0 xs; end = to })
  table_reads n rest at xs to few s =
      let all : min (length xs) n ≡ length xs = omega arith in
      ap (λ c. then (records_at read at c) (λ r. Ok (table_of n rest r))) all
      ∙ then_ok _ (records_read xs 0 (record { items = []; end = at }) to s)

  module _ (bs word : List ℕ) (at low high : ℕ) where
    pub section_stands_as : (t : Items A) → section_of read bs at word low high ≡ Ok t → Section R bs at word low high t.items t.end
    section_stands_as t h =
        let p = then_parts (section_at bs at word) (λ a. then (number_at bs a low high) (λ n. records_at read n.end n.value)) t h in
        let q = then_parts (number_at bs p.0 low high) (λ n. records_at read n.end n.value) t p.2 in
        let c = number_stands bs p.0 low high q.0 q.1 in
        let d = records_stand q.0.value 0 (record { items = []; end = q.0.end }) t q.2 in
        let count : q.0.value ≡ length t.items = sym d.long ∙ ap length (sym d.all) in
        record {
          named = p.0;
          counted = q.0.end;
          word_stands = section_stands bs at word p.0 p.1;
          count_stands = subst (λ v. Next bs p.0 (decimal v) q.0.end) count c.next;
          enough = omega (arith, c.above, count);
          few = omega (arith, c.below, count);
          records = subst (λ xs. Said R [] q.0.end xs t.end) (sym d.all) d.said;
        }

    pub section_reads_as : numeral word ≡ false → high < 10 ^ 9 → (xs : List A) (to : ℕ) → Section R bs at word low high xs to → section_of read bs at word low high ≡ Ok (record { items = xs; end = to })
    section_reads_as plain small xs to s =
        then_ok _ (section_read bs at word s.named plain s.word_stands)
        ∙ then_ok (λ n. records_at read n.end n.value) (number_read bs s.named low high (length xs) s.counted s.count_stands s.enough s.few (omega (arith, s.few)))
        ∙ records_read xs 0 (record { items = []; end = s.counted }) to s.records

-- what each record says of its item holds of all items
said_all : {A : Type 0} (R : Saying A) (P : A → Type 0) → ((before : List A) (at : ℕ) (x : A) (to : ℕ) → R before at x to → P x) → (before : List A) (at : ℕ) (xs : List A) (to : ℕ) → Said R before at xs to → AllByRecursion P xs
said_all R P each before at [] to s = tt
said_all R P each before at (x ∷ xs) to s =
    (each before at x s.0 s.1, said_all R P each (before ++ (x ∷ [])) s.0 xs to s.2)

-- records that each say their own words are the words of all of them
module _ {A : Type 0} (R : Saying A) (P : A → Type 0) (bs : List ℕ) (text : A → List (List ℕ)) where
  pub said_words : ((before : List A) (at : ℕ) (x : A) (to : ℕ) → R before at x to → P x × Spelled bs at (text x) to) → (before : List A) (at : ℕ) (xs : List A) (to : ℕ) → Said R before at xs to → AllByRecursion P xs × Spelled bs at (flat_map text xs) to
  said_words each before at [] to s = (tt, s)
  said_words each before at (x ∷ xs) to s =
      let one = each before at x s.0 s.1 in
      let more = said_words each (before ++ (x ∷ [])) s.0 xs to s.2 in
      ((one.0, more.0), spelled_join bs (text x) (flat_map text xs) at s.0 to one.1 more.1)

  pub words_said : ((before : List A) (at : ℕ) (x : A) (to : ℕ) → P x → Spelled bs at (text x) to → R before at x to) → (before : List A) (at : ℕ) (xs : List A) (to : ℕ) → AllByRecursion P xs → Spelled bs at (flat_map text xs) to → Said R before at xs to
  words_said each before at [] to p s = s
  words_said each before at (x ∷ xs) to p s =
      let w = spelled_split bs (text x) (flat_map text xs) at to s in
      (w.0, each before at x w.0 p.0 w.1, words_said each (before ++ (x ∷ [])) w.0 xs to p.1 w.2)

-- a section that was read: how many items there are, and what holds of each
pub record Kept {A : Type 0} (P : A → Type 0) (d : A) (low high : ℕ) (xs : List A) : Type 0 where
  pub enough : low ≤ length xs
  pub few : length xs ≤ high
  pub each : (k : ℕ) → k < length xs → P (get_or xs k d)

pub kept : {A : Type 0} (read : Reader A) (R : Saying A) → Exact read R → (P : A → Type 0) (d : A) → ((before : List A) (at : ℕ) (x : A) (to : ℕ) → R before at x to → P x) → (bs word : List ℕ) (at low high : ℕ) (t : Items A) → Ok t ≡ section_of read bs at word low high → Kept P d low high t.items
kept read R exact P d each bs word at low high t h =
    let s = section_stands_as read R exact bs word at low high t (sym h) in
    record { enough = s.enough; few = s.few; each = λ k l. All-get_or P t.items k d l (said_all R P each [] s.counted t.items t.end s.records) }

-- a reader that tells what the sheet says, where that is told exactly of what stands there, reads exactly that
pub exactly : {V C : Type 0} (view : V → C) (Says : C → Type 0) (t : Told C) → ((c : C) → t ≡ Ok c → Says c) → ((c : C) → Says c → t ≡ Ok c) → (r : Result V ModelFault) → ToldAs view r t → Exactly view Says r
exactly view Says t stands read (Ok v) is =
    record { says = λ c e. stands c (sym is ∙ ap Ok e); reads = λ c s. inl (ok_same (is ∙ read c s)) }
exactly view Says t stands read (Err (Sheet e)) is =
    record { says = λ c z. absurd z; reads = λ c s. absurd (let z : ◌≡◌ {A = ℕ} 0 1 = cc (is, read c s) in omega arith) }
exactly view Says t stands read (Err (Memory e)) is = record { says = λ c z. absurd z; reads = λ c s. inr refl }
