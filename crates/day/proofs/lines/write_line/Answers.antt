use Rattle.std.proofs.Common.{◌≡◌, ◌++◌, [], ◌∷◌, codes, decimal, string_bytes, rules}
use Rattle.area.specs.Code.{book_of}
use Rattle.day.specs.Text.{head_text, numbers_from}
use Rattle.day.proofs.Joining.{numbers_step, numbers_end, three_pieces}
use Rattle.day.proofs.lines.write_line.Goals as goal

pub loop-k-preserved : goal.loop-k-preserved
loop-k-preserved g c =
    let l = c.loop-k in
    let n = c.envelope-number.result in
    let next : string_bytes c.write.new.self ≡ string_bytes l.out ++ (codes " " ++ decimal n) = search rules in
    numbers_step (book_of c.args.area.now.book).envelope c.args.places l.k n (string_bytes l.out) _ _ c.loop-k-test.true c.envelope-number.ensures next l.invariant

pub returns : goal.returns
returns g c =
    let b = book_of c.args.area.now.book in
    let out = string_bytes c.args.out.now in
    let q = string_bytes c.write_head.new.out in
    let numbers = numbers_end b.envelope c.args.places c.loop-k.k (string_bytes c.loop-k.out) _ c.loop-k-test.false c.loop-k.invariant in
    three_pieces c.writeln.result out (head_text c.args.call c.args.done b.state b.row) (numbers_from b.envelope c.args.places 0) (10 ∷ [])
    q (string_bytes c.loop-k.out) (string_bytes c.writeln.new.self) c.in_ok-write_head.ensures numbers (search rules)
