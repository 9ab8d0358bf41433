use Rattle.std.proofs.Common.{◌≡◌, map, length, sum, ap, ◌∙◌, arith}
use Rattle.std.specs.List.{range_with_len}
use Rattle.std.proofs.lemmas.List.FromFn.{sum_by-map-range_with_len_more}
use Rattle.linear.specs.Code.{lines}
use Rattle.linear.specs.Lines.{part, line_sum}
use Rattle.linear.proofs.linear.Linear.line_sum.Goals as goal

pub loop-column-preserved : goal.loop-column-preserved
loop-column-preserved c =
    let f = part (lines c.args.self.now) c.args.mode c.args.values.now c.args.line in
    let e = sum_by-map-range_with_len_more (λ y. y) f 0 c.loop-column.column c.loop-column.column (omega arith) in
    let s = c.loop-column.invariant.0 in
    let v = c.part.ensures.value in
    (cc, omega (arith, c.loop-column.invariant.1, c.part.ensures.small))

pub returns : goal.returns
unfolding line_sum
returns c =
    let n = lines c.args.self.now in
    let f = part n c.args.mode c.args.values.now c.args.line in
    let p : c.loop-column.column ≡ length n.places = omega arith in
    record {
      value = c.loop-column.invariant.0 ∙ ap (λ j. sum (map f (range_with_len 0 j))) p;
      small = omega (arith, c.loop-column.invariant.1, c.args.self.now.few);
    }
