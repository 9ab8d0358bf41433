use Rattle.std.proofs.Common.{◌-◌, ◌<◌, ◌≤◌, length, vec_items, ap, arith}
use Rattle.std.proofs.lemmas.List.{get_or_read}
use Rattle.network.specs.Sound.{no_link}
use Rattle.network.specs.Bounds.{product_small}
use Rattle.network.proofs.network.Network.passage.Goals as goal

pub overflow_mul-weighed : goal.overflow_mul-weighed
overflow_mul-weighed c =
    let t = c.args.turn.now in
    let ls = vec_items c.args.self.now.links in
    let h : t.to - 1 < length ls = omega (arith, c.requires.1) in
    let e = get_or_read ls (t.to - 1) c.index.result.now h c.index.ensures no_link in
    let s : c.saturating_sub-room.result ≤ 100000 = omega (arith, c.saturating_sub-room.ensures, ap (λ x. x.top) e, (c.args.self.now.linked (t.to - 1) h).1.1) in
    omega (arith, product_small t.supply c.saturating_sub-room.result c.requires.2.2 s)
