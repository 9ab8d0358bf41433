-- What a network sheet says by its words alone.
use Rattle.std.specs.Prelude.{ℕ, ◌≤◌, List, length, codes}
use Rattle.records.specs.Sections.{Section}
use Rattle.limit_sheet.specs.Limits.{LimitSaid}
use Rattle.network_sheet.specs.Links.{SignalSaid, LinkSaid}
use Rattle.network_sheet.specs.Turns.{TurnSaid}
use Rattle.model_sheet.specs.Content.{Content}
use Rattle.network.specs.Network.{Roads}

-- a sheet of at most 65,535 bytes whose words, up to its end, are those of the roads and the limits
pub record Says (bs : List ℕ) (c : Content Roads) : Type 0 where
  pub short : length bs ≤ 65535
  pub signals_end : ℕ
  pub links_end : ℕ
  pub turns_end : ℕ
  pub signals : Section (SignalSaid bs) bs 0 (codes "signals") 1 32 c.model.phases signals_end
  pub links : Section (LinkSaid bs c.model.phases (length c.model.phases)) bs signals_end (codes "links") 1 64 c.model.links links_end
  pub turns : Section (TurnSaid bs c.model.links (length c.model.links)) bs links_end (codes "turns") 0 256 c.model.turns turns_end
  pub limits : Section (LimitSaid bs (length c.model.links)) bs turns_end (codes "limits") 0 32 c.limits c.end
