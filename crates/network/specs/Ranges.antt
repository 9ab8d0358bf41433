-- What the struct's invariant says of its roads, and what keeps the numbers of a step in range.
use Rattle.std.specs.Prelude.{◌≡◌, ℕ, ◌-◌, ◌<◌, ◌≤◌, List, length, slice_index, Option, MatchOption}
use Rattle.std.specs.Slice.{IsItemAt}
use denote.Ref.{Bor}
use Rattle.std.proofs.Common.{refl, sym, ap, subst, ◌∙◌, arith}
use Rattle.model.specs.State.{capped, told}
use Rattle.model.specs.Model.{lit}
use Rattle.model.proofs.State.{capped_below, told_at, told_none}
use Rattle.model.proofs.Numbers.{number_told}
use Rattle.network.specs.declared.links.Link.{Link}
use Rattle.network.specs.declared.network.Network.{Network}
use Rattle.network.specs.Code.{roads}
use Rattle.network.specs.Sound.{no_link}
use Rattle.network.specs.Network.{Roads, Sound, link, tops, loads, inflow, amount, release, releases, let_out, LetsOut, Greatest}
use Rattle.network.specs.Parts.{Ready, Small, NumbersOf, NoneOf}
use Rattle.network.specs.Bounds.{inflow_small}
use Rattle.network.specs.Easing.{release_greatest}
use Rattle.network.specs.Sizes.{length_tops, length_loads, top_high, top_past, tops_past, load_top, load_past, wish_le, slice_index_tops, slice_index_loads, slice_index_releases, release_past, inflow_past}

pub sound : (m : Network) → Sound (roads m)
sound m = record { phased = m.phased; some = m.some; few = m.few; linked = m.linked; short = m.short; turned = m.turned }

module _ (n : Roads) (ok : Sound n) (p : ℕ) (h : 1 ≤ p → length n.links < p) where
  pub none_of : NoneOf n p
  none_of =
      record {
        top = told_none (tops n) (length n.links) p h (tops_past n ok);
        load = told_none (loads n) (length n.links) p h (λ k l. slice_index_loads n ok k ∙ load_past n k l);
      }

pub numbers_of : (n : Roads) → Sound n → (p : ℕ) (l : Link) → 1 ≤ p → l ≡ link n (p - 1) → NumbersOf n p l
numbers_of n ok p l h e =
    record {
      top = ap (λ k. k.top) e ∙ (sym (slice_index_tops n ok (p - 1)) ∙ sym (told_at (tops n) p h));
      load = ap (λ k. k.load) e ∙ (sym (slice_index_loads n ok (p - 1)) ∙ sym (told_at (loads n) p h));
    }

pub release_outside : (n : Roads) → Sound n → (p : ℕ) → (1 ≤ p → length n.links < p) → (r q : List ℕ) → told (releases n r q) p ≡ 0
release_outside n ok p h r q =
    told_none (releases n r q) (length n.links) p h (λ k l. slice_index_releases n ok r q k ∙ release_past n ok r q k l)

-- what is told of the link that stands at index k, where one does
module _ (n : Roads) (ok : Sound n) (p k : ℕ) (h : 1 ≤ p) (i : k ≡ p - 1) (l : Option (Bor Link)) (e : IsItemAt n.links k l) where
  pub top_told : MatchOption l (told (tops n) p ≡ 0) (λ x. x.now.top ≡ told (tops n) p)
  unfolding tops
  top_told = number_told n.links no_link ok.few (λ x. x.top) refl p k h i l e

  pub load_told : MatchOption l (told (loads n) p ≡ 0) (λ x. x.now.load ≡ told (loads n) p)
  unfolding loads
  load_told = number_told n.links no_link ok.few (λ x. x.load) refl p k h i l e

pub ready : (n : Roads) → Sound n → (r x v o q w : List ℕ) → o ≡ releases n r q → q ≡ capped (tops n) x → w ≡ capped (loads n) v → Ready n o q w
ready n ok r x v o q w a b c =
    record {
      leaving = λ k. omega (arith, ap (λ z. slice_index z k) a, slice_index_releases n ok r q k, (release_greatest n ok r q k).below, wish_le n r q k);
      queued = rw b (capped_below (tops n) (omega (arith, length_tops n)) x);
      arrived = rw c (capped_below (loads n) (omega (arith, length_loads n)) v);
    }

module _ (n : Roads) (ok : Sound n) (o q v : List ℕ) (s : Ready n o q v) where
  pub queue_small : (k : ℕ) → slice_index q k ≤ 100000
  queue_small k = omega (arith, s.queued k, top_high n ok k)

  pub out_small : (k : ℕ) → slice_index o k ≤ 100000
  out_small k = omega (arith, s.leaving k, queue_small k)

  pub arrival_small : (k : ℕ) → slice_index v k ≤ 100000
  arrival_small k = omega (arith, s.arrived k, load_top n ok k, top_high n ok k)

  pub inflow_few : (k : ℕ) → inflow n o k ≤ 25600000
  unfolding inflow
  inflow_few k = inflow_small n ok o out_small k

  pub amount_past : (k : ℕ) → length n.links ≤ k → amount n o q v k ≡ 0
  unfolding amount
  amount_past k h =
      omega (arith, s.queued k, slice_index_tops n ok k, top_past n k h, s.arrived k, slice_index_loads n ok k, load_past n k h, inflow_past n ok o k h)

  pub small : Small o q v
  small = record { leaving = s.leaving; queued = queue_small; arrived = arrival_small }

-- what is told of a link is the greatest amount
pub lets_out : (n : Roads) → Sound n → (r x : List ℕ) (p m : ℕ) → m ≡ told (let_out n r x) p → LetsOut n r x p m
lets_out n ok r x p m e =
    record {
      inside = λ h l. subst (Greatest n (lit n.phases r) (capped (tops n) x) (p - 1)) (sym (is h)) (release_greatest n ok (lit n.phases r) (capped (tops n) x) (p - 1));
      outside = λ h. e ∙ release_outside n ok p h (lit n.phases r) (capped (tops n) x);
    }
  where
    is : 1 ≤ p → m ≡ release n (lit n.phases r) (capped (tops n) x) (p - 1)
    is h = e ∙ (told_at (let_out n r x) p h ∙ slice_index_releases n ok (lit n.phases r) (capped (tops n) x) (p - 1))
