use Rattle.std.proofs.Common.{rules, ◌≡◌, ◌+◌, ◌-◌, ◌*◌, ◌<◌, length, vec_items, arith}
use Rattle.std.proofs.lemmas.List.{get_or_read}
use Rattle.linear.proofs.Bounds.{entry_inside}
use Rattle.linear.proofs.linear.Linear.entry.Goals as goal

pub index-requires : goal.index-requires
index-requires c =
    let n = c.args.self.now in
    let p = length (vec_items n.places) in
    let l : c.len-count.result ≡ p = omega arith in
    let h = entry_inside c.args.mode c.args.line c.args.column p n.modes c.requires.moded.0 c.requires.moded.1 c.requires.inside.0 c.requires.inside.1 in
    let m : c.from.result ≡ c.args.mode = search rules in
    simp m (simp l (omega (arith, h, n.full)))

pub returns : goal.returns
returns c =
    let n = c.args.self.now in
    let p = length (vec_items n.places) in
    let l : c.len-count.result ≡ p = omega arith in
    let h = entry_inside c.args.mode c.args.line c.args.column p n.modes c.requires.moded.0 c.requires.moded.1 c.requires.inside.0 c.requires.inside.1 in
    let k = ((c.args.mode - 1) * p + c.args.line) * p + c.args.column in
    let m : c.from.result ≡ c.args.mode = search rules in
    let e = simp m at (simp l at c.index.ensures) in
    let g : k < length (vec_items n.entries) = omega (arith, h, n.full) in
    let v = get_or_read (vec_items n.entries) k c.index.result.now g e 0 in
    record { value = v; small = omega (arith, v, n.entered k g) }
