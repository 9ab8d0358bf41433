-- A whole network sheet: the sections `signals`, `links`, `turns` and `limits`, one after the other.
use Rattle.std.specs.Prelude.{ℕ, List, length, Ok, codes}
use Rattle.refusal.specs.Questions.{Told, then}
use Rattle.words.specs.Words.{short_sheet}
use Rattle.records.specs.Sections.{Items, section_of}
use Rattle.network.specs.declared.links.Link.{Link}
use Rattle.network.specs.declared.links.Turn.{Turn}
use Rattle.network.specs.declared.network.Network.{Network}
use Rattle.network.specs.Network.{Roads}
use Rattle.network.specs.Code.{roads}
use Rattle.limit_sheet.specs.Limits.{limits_section}
use Rattle.model_sheet.specs.declared.ModelRead.{ModelRead}
use Rattle.model_sheet.specs.Content.{Content, content_by}
use Rattle.network_sheet.specs.Links.{signal_at, link_at}
use Rattle.network_sheet.specs.Turns.{turn_at}

-- 1 to 32 junctions
abbrev pub signals_section : List ℕ → ℕ → Told (Items ℕ)
signals_section bs at = section_of (signal_at bs) bs at (codes "signals") 1 32

-- 1 to 64 links between junctions with these phases
abbrev pub links_section : List ℕ → List ℕ → ℕ → Told (Items Link)
links_section bs phases at = section_of (link_at bs phases (length phases)) bs at (codes "links") 1 64

-- at most 256 turns between these links
abbrev pub turns_section : List ℕ → List Link → ℕ → Told (Items Turn)
turns_section bs links at = section_of (turn_at bs links (length links)) bs at (codes "turns") 0 256

abbrev pub sections : List ℕ → Told (Content Roads)
sections bs =
    then (signals_section bs 0) (λ signals.
    then (links_section bs signals.items signals.end) (λ links.
    then (turns_section bs links.items links.end) (λ turns.
    then (limits_section bs (length links.items) turns.end) (λ limits.
    Ok (record { model = record { phases = signals.items; links = links.items; turns = turns.items }; limits = limits.items; end = limits.end })))))

-- the length of the sheet first, then its words
abbrev pub network_sheet : List ℕ → Told (Content Roads)
network_sheet bs = then (short_sheet bs) (λ _. sections bs)

abbrev pub content : ModelRead Network → Content Roads
content = content_by roads
