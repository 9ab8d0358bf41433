-- A whole network sheet is read exactly where it stands.
use Rattle.std.proofs.Common.{◌≡◌, ℕ, List, length, Ok, codes, Result, refl, ◌∙◌, subst, arith}
use Rattle.refusal.proofs.Turning.{then_parts, then_ok, ok_same}
use Rattle.words.specs.Words.{short_sheet}
use Rattle.words.proofs.Due.{short_stands, short_read}
use Rattle.records.specs.declared.fault.ModelFault.{ModelFault}
use Rattle.records.specs.Sections.{ToldAs, Exactly}
use Rattle.records.proofs.Exactness.{section_stands_as, section_reads_as, exactly}
use Rattle.network.specs.Network.{Roads, network}
use Rattle.limit_sheet.specs.Limits.{limits_section, limit_at, LimitSaid}
use Rattle.limit_sheet.proofs.Exactness.{limit_exact}
use Rattle.model_sheet.specs.declared.ModelRead.{ModelRead}
use Rattle.model_sheet.specs.Content.{Content, content_by, Means}
use Rattle.model_sheet.proofs.Meant.{exactly_meant}
use Rattle.network.specs.Code.{roads}
use Rattle.network.specs.declared.network.Network.{Network}
use Rattle.network_sheet.specs.Links.{signal_at, link_at, SignalSaid, LinkSaid}
use Rattle.network_sheet.specs.Turns.{turn_at, TurnSaid}
use Rattle.network_sheet.specs.Network.{signals_section, links_section, turns_section, content, sections, network_sheet}
use Rattle.network_sheet.specs.Says.{Says}
use Rattle.network_sheet.proofs.LinkExact.{signal_exact, link_exact}
use Rattle.network_sheet.proofs.TurnExact.{turn_exact}

sheet_stands : (bs : List ℕ) (c : Content Roads) → network_sheet bs ≡ Ok c → Says bs c
sheet_stands bs c h =
    let whole = then_parts (short_sheet bs) (λ _. sections bs) c h in
    let p = then_parts (signals_section bs 0) _ c whole.2 in
    let l = then_parts (links_section bs p.0.items p.0.end) _ c p.2 in
    let t = then_parts (turns_section bs l.0.items l.0.end) _ c l.2 in
    let m = then_parts (limits_section bs (length l.0.items) t.0.end) _ c t.2 in
    let signals : ℕ = length p.0.items in
    let places : ℕ = length l.0.items in
    let one = section_stands_as (signal_at bs) (SignalSaid bs) (signal_exact bs) bs (codes "signals") 0 1 32 p.0 p.1 in
    let two = section_stands_as (link_at bs p.0.items signals) (LinkSaid bs p.0.items signals) (link_exact bs p.0.items signals one.few) bs (codes "links") p.0.end 1 64 l.0 l.1 in
    let three = section_stands_as (turn_at bs l.0.items places) (TurnSaid bs l.0.items places) (turn_exact bs l.0.items places two.few) bs (codes "turns") l.0.end 0 256 t.0 t.1 in
    let four = section_stands_as (limit_at bs places) (LimitSaid bs places) (limit_exact bs places two.few) bs (codes "limits") t.0.end 0 32 m.0 m.1 in
    subst (Says bs) (ok_same m.2) (record {
      short = short_stands bs whole.1;
      signals_end = p.0.end;
      links_end = l.0.end;
      turns_end = t.0.end;
      signals = one;
      links = two;
      turns = three;
      limits = four;
    })

sheet_reads : (bs : List ℕ) (c : Content Roads) → Says bs c → network_sheet bs ≡ Ok c
sheet_reads bs c s =
    let n : Roads = c.model in
    let signals : ℕ = length n.phases in
    let places : ℕ = length n.links in
    then_ok _ (short_read bs s.short)
    ∙ then_ok _ (section_reads_as (signal_at bs) (SignalSaid bs) (signal_exact bs) bs (codes "signals") 0 1 32 refl (omega arith) n.phases s.signals_end s.signals)
    ∙ then_ok _ (section_reads_as (link_at bs n.phases signals) (LinkSaid bs n.phases signals) (link_exact bs n.phases signals s.signals.few) bs (codes "links") s.signals_end 1 64 refl (omega arith) n.links s.links_end s.links)
    ∙ then_ok _ (section_reads_as (turn_at bs n.links places) (TurnSaid bs n.links places) (turn_exact bs n.links places s.links.few) bs (codes "turns") s.links_end 0 256 refl (omega arith) n.turns s.turns_end s.turns)
    ∙ then_ok _ (section_reads_as (limit_at bs places) (LimitSaid bs places) (limit_exact bs places s.links.few) bs (codes "limits") s.turns_end 0 32 refl (omega arith) c.limits c.end s.limits)

-- the answer that is the definition's is exactly what the sheet says
pub read_exactly : (bs : List ℕ) (r : Result (ModelRead Network) ModelFault) → ToldAs content r (network_sheet bs) → Exactly content (Says bs) r
read_exactly bs r is = exactly content (Says bs) (network_sheet bs) (sheet_stands bs) (sheet_reads bs) r is

-- and exactly what it says by what its model means
pub read_meant : (bs : List ℕ) (r : Result (ModelRead Network) ModelFault) → Exactly content (Says bs) r → Exactly (content_by (λ m. network (roads m))) (Means network (Says bs)) r
read_meant bs r x = exactly_meant network content (Says bs) r x
