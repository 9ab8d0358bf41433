use Rattle.std.proofs.Common.{◌≡◌, length, vec_items, ap, ◌∙◌, arith}
use Rattle.linear_sheet.specs.Places.{entry_count}
use Rattle.linear_sheet.proofs.Ranges.{places_ok, entries_ok}
use Rattle.linear_sheet.proofs.read.read_sections.Goals as goal

pub overflow_cast-count : goal.overflow_cast-count
overflow_cast-count c =
    let p = places_ok c.args.bytes.now c.in_ok-modes.modes.end c.in_ok-places.ensures in
    omega (arith, p.1)

pub entries_section-requires : goal.entries_section-requires
entries_section-requires c =
    let p = places_ok c.args.bytes.now c.in_ok-modes.modes.end c.in_ok-places.ensures in
    (c.in_ok-modes.ensures.within.1, omega (arith, p.1))

pub invariant_of-model : goal.invariant_of-model
invariant_of-model c =
    let modes = c.in_ok-modes.modes.value in
    let places = c.in_ok-places.places in
    let m = c.in_ok-modes.ensures.within in
    let p = places_ok c.args.bytes.now c.in_ok-modes.modes.end c.in_ok-places.ensures in
    let e = entries_ok c.args.bytes.now modes c.len-count.result places.end c.in_ok-entries.ensures in
    let counted : c.len-count.result ≡ length (vec_items places.items) = omega arith in
    record { moded = m.0; short = m.1; some = p.0; few = p.1; placed = p.2; full = e.0 ∙ ap (entry_count modes) counted; entered = e.1 }
