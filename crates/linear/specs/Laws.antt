-- A linear model obeys the laws of a model.
use Rattle.std.specs.Prelude.{◌≡◌, ℕ, ◌≤◌, List, length, Some, None, Option, slice_index}
use Rattle.std.proofs.Math.Path.{refl}
use Rattle.std.proofs.Math.Logic.{⊎_elim}
use Rattle.std.proofs.Common.{arith}
use Rattle.std.proofs.lemmas.Bool.{cases_lt}
use Rattle.model.specs.State.{lowest_above}
use Rattle.model.specs.Model.{Lawful, CoreLaws, Placed}
use Rattle.model.proofs.State.{length_capped, capped_below}
use Rattle.model.proofs.Core.{lawful as core_lawful}
use Rattle.linear.specs.Lines.{Lines, Sound, tops, amount, amounts, mode, moved, cut_off, judged, core, linear}
use Rattle.linear.specs.Above.{some_above}
use Rattle.linear.specs.Order.{order_clear, order_next}
use Rattle.linear.specs.Sizes.{length_tops, length_loads, slice_index_tops, slice_index_amounts, inside_past, tops_past, top_high, load_top}

module _ (n : Lines) (ok : Sound n) where
  told_place : (r x v : List ℕ) → Placed (core n) (judged n r x v)
  unfolding judged
  told_place r x v = go (lowest_above (amounts n (mode r) x v) (tops n)) refl
    where
      go : (o : Option ℕ) → lowest_above (amounts n (mode r) x v) (tops n) ≡ o → Placed (core n) (cut_off o)
      go None e = tt
      go (Some p) e =
          let a = some_above (amounts n (mode r) x v) (tops n) p e in (
            omega (arith, a.number),
            ⊎_elim
                (λ h. omega (arith, a.number))
                (λ h. absurd (omega (arith, a.more, slice_index_amounts n ok (mode r) x v a.index, inside_past n a.index h (amount n (mode r) x v))))
                (cases_lt a.index (length n.places)),
          )

  whole_moved : (r x v : List ℕ) → length (moved n r x v) ≡ 64
  unfolding moved
  whole_moved r x v = length_capped (tops n) _

  within : (r x v : List ℕ) (k : ℕ) → slice_index (moved n r x v) k ≤ slice_index (tops n) k
  unfolding moved
  within r x v k = capped_below (tops n) (omega (arith, length_tops n)) _ k

  lawful_core : CoreLaws (core n)
  lawful_core =
      record {
        few_places = omega (arith, ok.few);
        few_signals = omega arith;
        whole_tops = length_tops n;
        whole_loads = length_loads n;
        low_tops = λ k h. omega (arith, slice_index_tops n ok k, (ok.placed k h).0);
        high_tops = top_high n ok;
        end_tops = tops_past n ok;
        loads_in_tops = load_top n ok;
        whole_moved = whole_moved;
        within = within;
        held_place = told_place;
        clear = order_clear n ok;
        order = λ r x y v w h g c. order_next n ok r x y v w h g;
      }

  pub lawful : Lawful (linear n)
  lawful = core_lawful (core n) lawful_core
