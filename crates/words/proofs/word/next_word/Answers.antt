use Rattle.std.proofs.Common.{sym, arith}
use Rattle.words.proofs.Steps.{ended_within, cut_within, cut_number, cut_name}
use Rattle.words.proofs.word.next_word.Goals as goal

pub slice_bounds-text-count : goal.slice_bounds-text-count
slice_bounds-text-count c = omega (arith, ended_within _ _ _ _ c.first_byte-place.ensures c.in_ok-end.ensures c.if-end-place.false)

pub slice_bounds-text-start : goal.slice_bounds-text-start
slice_bounds-text-start c = omega (arith, ended_within _ _ _ _ c.first_byte-place.ensures c.in_ok-end.ensures c.if-end-place.false)

pub slice_bounds-text-end : goal.slice_bounds-text-end
slice_bounds-text-end c = omega (arith, ended_within _ _ _ _ c.first_byte-place.ensures c.in_ok-end.ensures c.if-end-place.false)

pub returns-then-is_numeral : goal.returns-then-is_numeral
returns-then-is_numeral c = record {
  is = cut_number _ _ _ _ c.first_byte-place.ensures c.in_ok-end.ensures c.if-end-place.false (sym c.if-is_numeral.ensures);
  within = (cut_within _ _ _ _ c.first_byte-place.ensures c.in_ok-end.ensures c.if-end-place.false, sym c.if-is_numeral.ensures);
}

pub returns-else-is_numeral : goal.returns-else-is_numeral
returns-else-is_numeral c = record {
  is = cut_name _ _ _ _ c.first_byte-place.ensures c.in_ok-end.ensures c.if-end-place.false (sym c.if-is_numeral.ensures);
  within = cut_within _ _ _ _ c.first_byte-place.ensures c.in_ok-end.ensures c.if-end-place.false;
}
