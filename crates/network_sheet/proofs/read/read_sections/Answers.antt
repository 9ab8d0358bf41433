use Rattle.std.proofs.Common.{length, ap, arith}
use Rattle.network_sheet.proofs.Ranges.{phases_ok, links_ok, turns_ok}
use Rattle.network_sheet.proofs.read.read_sections.Goals as goal

pub links_section-requires : goal.links_section-requires
links_section-requires c =
    let p = phases_ok c.args.bytes.now c.in_ok-signals.ensures in
    omega (arith, p.1, ap length c.as_slice.ensures.value)

pub turns_section-requires : goal.turns_section-requires
turns_section-requires c =
    let l = links_ok c.args.bytes.now c.in_ok-signals.ensures c.as_slice.ensures.value c.in_ok-links.ensures in
    omega (arith, l.1, ap length c.as_slice-2.ensures.value)

pub overflow_cast-places : goal.overflow_cast-places
overflow_cast-places c =
    let l = links_ok c.args.bytes.now c.in_ok-signals.ensures c.as_slice.ensures.value c.in_ok-links.ensures in
    omega (arith, l.1)

pub invariant_of-model : goal.invariant_of-model
invariant_of-model c =
    let p = phases_ok c.args.bytes.now c.in_ok-signals.ensures in
    let l = links_ok c.args.bytes.now c.in_ok-signals.ensures c.as_slice.ensures.value c.in_ok-links.ensures in
    let t = turns_ok c.args.bytes.now c.in_ok-links.links.end c.as_slice-2.ensures.value l.1 c.in_ok-turns.ensures in
    record { phased = p; some = l.0; few = l.1; linked = l.2; short = t.0; turned = t.1 }
