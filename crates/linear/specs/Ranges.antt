-- What the struct's invariant says of its lines, and what keeps the numbers of a step in range.
use Rattle.std.specs.Prelude.{◌≡◌, ℕ, ◌-◌, ◌<◌, ◌≤◌, List, [], ◌∷◌, length, nat_le, slice_index}
use Rattle.std.proofs.Common.{sym, ap, ◌∙◌, arith}
use Rattle.std.proofs.lemmas.Bool.{leb-true}
use Rattle.model.specs.State.{capped}
use Rattle.model.specs.Model.{lit}
use Rattle.model.proofs.State.{capped_below, told_at, every_at, told_none}
use Rattle.model.proofs.Core.{lit_fits}
use Rattle.linear.specs.declared.place.Place.{Place}
use Rattle.linear.specs.declared.linear.Linear.{Linear}
use Rattle.linear.specs.Code.{lines}
use Rattle.linear.specs.Lines.{Lines, Sound, place, tops, loads, mode}
use Rattle.linear.specs.Parts.{Ready, NumbersOf, NoneOf}
use Rattle.linear.specs.Sizes.{length_tops, length_loads, top_high, tops_past, load_top, load_past, slice_index_tops, slice_index_loads}

pub sound : (m : Linear) → Sound (lines m)
sound m =
    record { moded = m.moded; short = m.short; some = m.some; few = m.few; placed = m.placed; full = m.full; entered = m.entered }

pub none_of : (n : Lines) → Sound n → (p : ℕ) → (1 ≤ p → length n.places < p) → NoneOf n p
none_of n ok p h =
    record {
      top = told_none (tops n) (length n.places) p h (tops_past n ok);
      load = told_none (loads n) (length n.places) p h (λ k l. slice_index_loads n ok k ∙ load_past n k l);
    }

pub numbers_of : (n : Lines) → Sound n → (p : ℕ) (l : Place) → 1 ≤ p → l ≡ place n (p - 1) → NumbersOf n p l
numbers_of n ok p l h e =
    record {
      top = ap (λ k. k.top) e ∙ (sym (slice_index_tops n ok (p - 1)) ∙ sym (told_at (tops n) p h));
      load = ap (λ k. k.load) e ∙ (sym (slice_index_loads n ok (p - 1)) ∙ sym (told_at (loads n) p h));
    }

-- the lamps l of the row r, the values y of the state x and the arrivals w of the given v
pub ready : (n : Lines) → Sound n → (r x v l y w : List ℕ) → l ≡ lit (n.modes ∷ []) r → y ≡ capped (tops n) x → w ≡ capped (loads n) v → Ready n (mode l) y w
ready n ok r x v l y w a b c =
    record {
      moded = leb-true (mode l) n.modes (every_at 32 (λ j. nat_le (slice_index l j) (slice_index (n.modes ∷ []) j)) (rw a (lit_fits (n.modes ∷ []) r)) 0 (omega arith));
      valued = λ k. omega (arith, valued k, top_high n ok k);
      coming = λ k. omega (arith, coming k, load_top n ok k, top_high n ok k);
    }
  where
    valued : (k : ℕ) → slice_index y k ≤ slice_index (tops n) k
    valued = rw b (capped_below (tops n) (omega (arith, length_tops n)) x)

    coming : (k : ℕ) → slice_index w k ≤ slice_index (loads n) k
    coming = rw c (capped_below (loads n) (omega (arith, length_loads n)) v)
