-- What the parts of a step work out is what the step means.
use Rattle.std.proofs.Common.{◌≡◌, ℕ, List, [], ◌∷◌, Option, ◌∙◌}
use Rattle.model.specs.declared.Answer.{Answer}
use Rattle.model.specs.State.{capped, lowest_above}
use Rattle.model.specs.Model.{lit, stepped}
use Rattle.linear.specs.Lines.{Lines, tops, loads, amounts, mode, moved, cut_off, judged, linear}

-- tops t, lamps l, values q, arrivals u, amounts m, next y and answer z, at the row r, the state x and the given arrivals v
module _ (n : Lines) (r x v t l q u m y : List ℕ) (o : Option ℕ) (z : Answer)
    (a : t ≡ tops n) (b : l ≡ lit (n.modes ∷ []) r) (c : q ≡ capped t x) (d : u ≡ capped (loads n) v) (e : m ≡ amounts n (mode l) q u)
    (f : y ≡ capped t m) (g : o ≡ lowest_above m t) (h : z ≡ cut_off o) where
  moved_is : y ≡ moved n l q u
  unfolding moved
  moved_is = f ∙ rw (e, a)

  judged_is : z ≡ judged n l q u
  unfolding judged
  judged_is = h ∙ rw (g, e, a)

  pub step_is : record { next = y; answer = z } ≡ stepped (linear n) r x v
  step_is = rw (moved_is, judged_is, b, c, a, d)
