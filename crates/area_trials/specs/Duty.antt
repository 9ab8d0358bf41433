-- When a duty can be spent: its area is on line, and it is the area's own.
use Rattle.std.specs.Prelude.{◌≡◌, true}
use Rattle.street.specs.Street.{Seen}
use Rattle.lives.specs.Calls.{is_on}
use Rattle.area.specs.declared.area.Area.{Area}
use Rattle.area.specs.declared.area.Duty.{Duty}
use Rattle.area.specs.Code.{area_of}

pub record OnDuty {S : Type 0} (seen : S → Seen) (a : Area S) (d : Duty) : Type 0 where
  pub on : is_on (area_of seen a).book.state ≡ true
  pub own : d.area ≡ (area_of seen a).number
