-- What is read keeps the ranges of a network.
use Rattle.std.proofs.Common.{◌≡◌, ℕ, ◌≤◌, List, length, Ok, codes, ap, ◌∙◌}
use Rattle.records.specs.Sections.{Items}
use Rattle.records.proofs.Exactness.{kept}
use Rattle.network.specs.declared.links.Link.{Link}
use Rattle.network.specs.declared.links.Turn.{Turn}
use Rattle.network.specs.Sound.{no_link, no_turn, LinkOk, TurnOk, PhasesOk, LinksOk, TurnsOk}
use Rattle.network_sheet.specs.Links.{signal_at, link_at, SignalSaid, LinkSaid}
use Rattle.network_sheet.specs.Turns.{turn_at, TurnSaid}
use Rattle.network_sheet.specs.Network.{signals_section, links_section, turns_section}
use Rattle.network_sheet.proofs.LinkExact.{signal_exact, link_exact}
use Rattle.network_sheet.proofs.TurnExact.{turn_exact}

pub phases_ok : (bs : List ℕ) {t : Items ℕ} → Ok t ≡ signals_section bs 0 → PhasesOk t.items
phases_ok bs {t} h =
    let s = kept (signal_at bs) (SignalSaid bs) (signal_exact bs) (λ p. (1 ≤ p) × (p ≤ 8)) 0 (λ _ _ _ _ w. (w.some, w.few)) bs (codes "signals") 0 1 32 t h in
    (s.enough, s.few, s.each)

-- the links that were read beside a slice of the phases before them
pub links_ok : (bs : List ℕ) {p : Items ℕ} {slice : List ℕ} {t : Items Link} → Ok p ≡ signals_section bs 0 → slice ≡ p.items → Ok t ≡ links_section bs slice p.end → (1 ≤ length t.items) × (length t.items ≤ 64) × LinksOk (length p.items) t.items
links_ok bs {p} {t = t} before same h =
    let phases : List ℕ = p.items in
    let n : ℕ = length phases in
    let s = kept (link_at bs phases n) (LinkSaid bs phases n) (link_exact bs phases n (phases_ok bs before).1) (LinkOk n) no_link (λ _ _ _ _ w. let g = w.good in ((g.tail, g.some_head, g.head), (g.some_top, g.top), (g.flow, g.load))) bs (codes "links") p.end 1 64 t (h ∙ ap (λ ps. links_section bs ps p.end) same) in
    (s.enough, s.few, s.each)

-- the turns that were read beside a slice of the links before them
pub turns_ok : (bs : List ℕ) (at : ℕ) {slice links : List Link} {t : Items Turn} → slice ≡ links → length links ≤ 64 → Ok t ≡ turns_section bs slice at → (length t.items ≤ 256) × TurnsOk (length links) t.items
turns_ok bs at {links = links} {t} same few h =
    let n : ℕ = length links in
    let s = kept (turn_at bs links n) (TurnSaid bs links n) (turn_exact bs links n few) (TurnOk n) no_turn (λ _ _ _ _ w. let g = w.good in ((g.some_from, g.from), (g.some_to, g.to), (g.some_share, g.share, g.supply))) bs (codes "turns") at 0 256 t (h ∙ ap (λ ls. turns_section bs ls at) same) in
    (s.few, s.each)
