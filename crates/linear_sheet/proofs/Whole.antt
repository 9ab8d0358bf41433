-- A whole linear model sheet is read exactly where it stands.
use Rattle.std.proofs.Common.{◌≡◌, ℕ, List, length, Ok, codes, Result, refl, ◌∙◌, subst, arith}
use Rattle.refusal.proofs.Turning.{then_parts, then_ok, ok_same}
use Rattle.words.specs.Words.{short_sheet}
use Rattle.words.proofs.Due.{short_stands, short_read}
use Rattle.records.specs.declared.fault.ModelFault.{ModelFault}
use Rattle.records.specs.Sections.{ToldAs, Exactly}
use Rattle.records.proofs.Exactness.{section_stands_as, section_reads_as, exactly}
use Rattle.linear.specs.Lines.{Lines, linear}
use Rattle.limit_sheet.specs.Limits.{limits_section, limit_at, LimitSaid}
use Rattle.limit_sheet.proofs.Exactness.{limit_exact}
use Rattle.model_sheet.specs.declared.ModelRead.{ModelRead}
use Rattle.model_sheet.specs.Content.{Content, content_by, Means}
use Rattle.model_sheet.proofs.Meant.{exactly_meant}
use Rattle.linear.specs.Code.{lines}
use Rattle.linear.specs.declared.linear.Linear.{Linear}
use Rattle.linear_sheet.specs.Places.{place_at, entry_at, entry_count, PlaceSaid, EntrySaid}
use Rattle.linear_sheet.specs.Linear.{modes_section, places_section, entries_section, content, sections, linear_sheet}
use Rattle.linear_sheet.specs.Says.{Says}
use Rattle.linear_sheet.proofs.PlaceExact.{modes_stand, modes_read, place_exact, entry_exact}
use Rattle.linear_sheet.proofs.Ranges.{few_entries}

sheet_stands : (bs : List ℕ) (c : Content Lines) → linear_sheet bs ≡ Ok c → Says bs c
sheet_stands bs c h =
    let whole = then_parts (short_sheet bs) (λ _. sections bs) c h in
    let m = then_parts (modes_section bs 0) _ c whole.2 in
    let p = then_parts (places_section bs m.0.end) _ c m.2 in
    let places : ℕ = length p.0.items in
    let count : ℕ = entry_count m.0.value places in
    let e = then_parts (entries_section bs m.0.value places p.0.end) _ c p.2 in
    let l = then_parts (limits_section bs places e.0.end) _ c e.2 in
    let two = section_stands_as (place_at bs) (PlaceSaid bs) (place_exact bs) bs (codes "places") m.0.end 1 16 p.0 p.1 in
    let three = section_stands_as (entry_at bs) (EntrySaid bs) (entry_exact bs) bs (codes "entries") p.0.end count count e.0 e.1 in
    let four = section_stands_as (limit_at bs places) (LimitSaid bs places) (limit_exact bs places (omega (arith, two.few))) bs (codes "limits") e.0.end 0 32 l.0 l.1 in
    subst (Says bs) (ok_same l.2) (record {
      short = short_stands bs whole.1;
      modes_end = m.0.end;
      places_end = p.0.end;
      entries_end = e.0.end;
      modes = modes_stand bs 0 m.0 m.1;
      places = two;
      entries = three;
      limits = four;
    })

sheet_reads : (bs : List ℕ) (c : Content Lines) → Says bs c → linear_sheet bs ≡ Ok c
sheet_reads bs c s =
    let n : Lines = c.model in
    let places : ℕ = length n.places in
    let count : ℕ = entry_count n.modes places in
    let few = few_entries n.modes places s.modes.few s.places.few in
    then_ok _ (short_read bs s.short)
    ∙ then_ok _ (modes_read bs 0 n.modes s.modes_end s.modes)
    ∙ then_ok _ (section_reads_as (place_at bs) (PlaceSaid bs) (place_exact bs) bs (codes "places") s.modes_end 1 16 refl (omega arith) n.places s.places_end s.places)
    ∙ then_ok _ (section_reads_as (entry_at bs) (EntrySaid bs) (entry_exact bs) bs (codes "entries") s.places_end count count refl (omega (arith, few)) n.entries s.entries_end s.entries)
    ∙ then_ok _ (section_reads_as (limit_at bs places) (LimitSaid bs places) (limit_exact bs places (omega (arith, s.places.few))) bs (codes "limits") s.entries_end 0 32 refl (omega arith) c.limits c.end s.limits)

-- the answer that is the definition's is exactly what the sheet says
pub read_exactly : (bs : List ℕ) (r : Result (ModelRead Linear) ModelFault) → ToldAs content r (linear_sheet bs) → Exactly content (Says bs) r
read_exactly bs r is = exactly content (Says bs) (linear_sheet bs) (sheet_stands bs) (sheet_reads bs) r is

-- and exactly what it says by what its model means
pub read_meant : (bs : List ℕ) (r : Result (ModelRead Linear) ModelFault) → Exactly content (Says bs) r → Exactly (content_by (λ m. linear (lines m))) (Means linear (Says bs)) r
read_meant bs r x = exactly_meant linear content (Says bs) r x
