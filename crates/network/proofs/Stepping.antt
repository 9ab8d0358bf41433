-- What the parts of a step work out is what the step means.
use Rattle.std.proofs.Common.{◌≡◌, ℕ, List, length, ap, ◌∙◌}
use Rattle.model.specs.declared.Answer.{Answer}
use Rattle.model.specs.State.{capped}
use Rattle.model.specs.Model.{lit, lowest, stepped}
use Rattle.network.specs.Network.{Roads, tops, loads, wishes, releases, amounts, verdict_at, moved, judged, let_out, network}
use Rattle.network.specs.Parts.{eased}
use Rattle.network.specs.Easing.{eased_wishes}

-- tops t, lamps l, queues q, wishes w and releases o, at the row r and the state x
module _ (n : Roads) (r x t l q w o : List ℕ) (a : t ≡ tops n) (b : l ≡ lit n.phases r) (c : q ≡ capped t x) (d : w ≡ wishes n l q) (e : o ≡ eased n q w) where
  pub out_is : o ≡ releases n l q
  out_is = e ∙ (ap (eased n q) d ∙ eased_wishes n l q)

  pub let_out_is : o ≡ let_out n r x
  let_out_is = out_is ∙ rw (b, c, a)

  -- with the arrivals u of the given v, and the amounts m
  module _ (v u m y : List ℕ) (z : Answer) (f : u ≡ capped (loads n) v) (g : m ≡ amounts n o q u) (h : y ≡ capped t m) (i : z ≡ lowest (length n.links) (verdict_at w o m t)) where
    moved_is : y ≡ moved n l q u
    unfolding moved
    moved_is = h ∙ rw (g, out_is, a)

    judged_is : z ≡ judged n l q u
    unfolding judged
    judged_is = i ∙ rw (g, out_is, d, a)

    pub step_is : record { next = y; answer = z } ≡ stepped (network n) r x v
    step_is = rw (moved_is, judged_is, b, c, a, f)
