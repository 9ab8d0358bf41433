-- Groups: one more used up.
use Rattle.std.proofs.Common.{◌≡◌, ℕ, ◌+◌, min, length, take, drop, sym, ap, ◌∙◌, ⊎_elim, arith, length-take-le}
use Rattle.std.proofs.lemmas.List.{at_drop_more, at_drop_all}
use Rattle.std.proofs.lemmas.Bool.{cases_lt}
use Rattle.street.specs.declared.groups.Groups.{Groups}
use Rattle.street.specs.Counted.{no_group, rest}
use Rattle.street.specs.Views.{to_come}

module _ (t : Groups) where
  kept_size : length (take t.kept t.table) ≡ t.kept
  kept_size = length-take-le t.kept t.table (omega (arith, t.size, t.few))

  pub used_more : (n : ℕ) → n ≡ min t.kept (t.used + 1) → drop n (take t.kept t.table) ≡ rest (to_come t)
  used_more n e =
      let gs = take t.kept t.table in
      ⊎_elim
      (λ l.
      let s : n ≡ t.used + 1 = omega arith in
      ap (λ k. drop k gs) s ∙ sym (at_drop_more rest gs t.used no_group (omega (arith, kept_size))))
      (λ l.
      at_drop_all (λ hs. hs) gs n (omega (arith, kept_size, t.within))
      ∙ sym (at_drop_all rest gs t.used (omega (arith, kept_size))))
      (cases_lt t.used t.kept)
