-- A network obeys the laws of a model.
use Rattle.std.specs.Prelude.{◌≡◌, ℕ, ◌+◌, ◌≤◌, List, length, nat_lt, slice_index}
use Rattle.std.proofs.Math.Path.{refl}
use native.Mathlib.Omega.{arith}
use Rattle.model.specs.declared.Answer.{Answer}
use Rattle.model.specs.declared.Answer.TheVariants.{Clear, Held}
use Rattle.model.specs.declared.Cause.{Cause}
use Rattle.model.specs.declared.Cause.TheVariants.{Blocked, Overflow}
use Rattle.model.specs.Model.{Lawful, CoreLaws, Placed}
use Rattle.model.proofs.State.{length_capped, capped_below}
use Rattle.model.proofs.Core.{lawful as core_lawful}
use Rattle.model.proofs.Answers.{lowest_held, held_cond}
use Rattle.network.specs.Network.{Roads, Sound, tops, wishes, releases, amounts, verdict_at, moved, judged, core, network}
use Rattle.network.specs.Sizes.{length_tops, length_loads, slice_index_tops, tops_past, top_high, load_top}
use Rattle.network.specs.Order.{order_clear, order_next}

verdict_held : (w o a t : List ℕ) (k p : ℕ) (c : Cause) → verdict_at w o a t k ≡ Held p c → p ≡ k + 1
verdict_held w o a t k p c e =
    held_cond (nat_lt (slice_index o k) (slice_index w k)) p (k + 1) c Blocked _
    (held_cond (nat_lt (slice_index t k) (slice_index a k)) p (k + 1) c Overflow Clear (λ z. absurd (let s : ◌≡◌ {A = ℕ} 0 1 = cc in omega arith))) e

module _ (n : Roads) (ok : Sound n) where
  told_place : (r q v : List ℕ) → Placed (core n) (judged n r q v)
  unfolding judged
  told_place r q v = go (judged n r q v) refl
    where
      go : (a : Answer) → judged n r q v ≡ a → Placed (core n) a
      go Clear e = tt
      go (Held p c) e =
          let t = lowest_held (length n.links) (verdict_at (wishes n r q) (releases n r q) (amounts n (releases n r q) q v) (tops n)) p c e in
          let s = verdict_held (wishes n r q) (releases n r q) (amounts n (releases n r q) q v) (tops n) t.0 p c t.2 in
          (omega arith, omega (arith, t.1))

  whole_moved : (r q v : List ℕ) → length (moved n r q v) ≡ 64
  unfolding moved
  whole_moved r q v = length_capped (tops n) _

  within : (r q v : List ℕ) (k : ℕ) → slice_index (moved n r q v) k ≤ slice_index (tops n) k
  unfolding moved
  within r q v k = capped_below (tops n) (omega (arith, length_tops n)) _ k

  lawful_core : CoreLaws (core n)
  lawful_core =
      record {
        few_places = ok.few;
        few_signals = ok.phased.1;
        whole_tops = length_tops n;
        whole_loads = length_loads n;
        low_tops = λ k h. omega (arith, slice_index_tops n ok k, (ok.linked k h).1.0);
        high_tops = top_high n ok;
        end_tops = tops_past n ok;
        loads_in_tops = load_top n ok;
        whole_moved = whole_moved;
        within = within;
        held_place = told_place;
        clear = order_clear n ok;
        order = order_next n ok;
      }

  pub lawful : Lawful (network n)
  lawful = core_lawful (core n) lawful_core
