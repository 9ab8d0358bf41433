-- The numbers of each link: within their ranges, and 0 past the last link.
use Rattle.std.specs.Prelude.{◌≡◌, ℕ, ◌+◌, ◌<◌, ◌≤◌, min, List, length, get_or, ◌==◌, slice_index, slice_index_or, refl}
use Rattle.std.proofs.Math.Path.{ap}
use Rattle.std.proofs.Common.{arith}
use Rattle.std.proofs.lemmas.List.{get_or_past}
use Rattle.std.proofs.lemmas.Bool.{cond_both, cond-false, ne_eqb}
use Rattle.std.proofs.ByRecursion.{All-from_get_or, sum_by_le}
use Rattle.model.specs.State.{Below}
use Rattle.model.proofs.State.{length_whole, slice_index_whole_all}
use Rattle.model.proofs.Numbers.{number_at, number_past, number_small, numbers_below}
use Rattle.network.specs.Sound.{no_link, no_turn}
use Rattle.network.specs.Network.{Roads, Sound, link, tops, loads, green, wish, release, releases, turned, turned_into, inflow}
use Rattle.network.specs.Easing.{release_greatest}

pub length_tops : (n : Roads) → length (tops n) ≡ 64
unfolding tops
length_tops n = length_whole _

pub length_loads : (n : Roads) → length (loads n) ≡ 64
unfolding loads
length_loads n = length_whole _

module _ (n : Roads) (k : ℕ) (h : length n.links ≤ k) where
  pub top_past : (link n k).top ≡ 0
  top_past = ap (λ l. l.top) (get_or_past n.links k no_link h)

  pub load_past : (link n k).load ≡ 0
  load_past = ap (λ l. l.load) (get_or_past n.links k no_link h)

pub wish_past : (n : Roads) (k : ℕ) → length n.links ≤ k → (r q : List ℕ) → wish n r q k ≡ 0
unfolding wish
wish_past n k h r q =
    let p : (link n k).flow ≡ 0 = ap (λ l. l.flow) (get_or_past n.links k no_link h) in
    cond_both (green (link n k) r) (min (link n k).flow (slice_index q k)) 0 (λ m. m ≡ 0) (λ e. omega arith) (λ e. refl)

pub wish_le : (n : Roads) (r q : List ℕ) (k : ℕ) → wish n r q k ≤ slice_index q k
unfolding wish
wish_le n r q k = cond_both (green (link n k) r) _ _ (λ m. m ≤ slice_index q k) (λ e. omega arith) (λ e. omega arith)

module _ (n : Roads) (ok : Sound n) where
  pub slice_index_tops : (k : ℕ) → slice_index (tops n) k ≡ (link n k).top
  unfolding tops
  slice_index_tops k = number_at n.links no_link ok.few (λ l. l.top) refl k

  pub slice_index_loads : (k : ℕ) → slice_index (loads n) k ≡ (link n k).load
  unfolding loads
  slice_index_loads k = number_at n.links no_link ok.few (λ l. l.load) refl k

  pub tops_past : (k : ℕ) → length n.links ≤ k → slice_index (tops n) k ≡ 0
  unfolding tops
  tops_past k h = number_past n.links no_link ok.few (λ l. l.top) refl k h

  pub top_high : (k : ℕ) → slice_index (tops n) k ≤ 100000
  unfolding tops
  top_high k = number_small n.links no_link ok.few (λ l. l.top) refl 100000 (λ j h. (ok.linked j h).1.1) k

  pub load_top : Below (loads n) (tops n)
  unfolding tops loads
  load_top = numbers_below n.links no_link ok.few (λ l. l.load) (λ l. l.top) refl refl (λ k h. (ok.linked k h).2.1)

  pub release_past : (r q : List ℕ) (k : ℕ) → length n.links ≤ k → release n r q k ≡ 0
  release_past r q k h = omega (arith, (release_greatest n ok r q k).below, wish_past n k h r q)

  pub slice_index_releases : (r q : List ℕ) (k : ℕ) → slice_index (releases n r q) k ≡ release n r q k
  unfolding releases
  slice_index_releases r q k = slice_index_whole_all (release n r q) (λ j h. release_past r q j (omega (arith, ok.few))) k

  -- no turn brings anything past the last link
  pub inflow_past : (o : List ℕ) (k : ℕ) → length n.links ≤ k → inflow n o k ≡ 0
  unfolding inflow
  inflow_past o k h =
      omega (arith, sum_by_le (turned_into o k) 0 n.turns (All-from_get_or (λ t. turned_into o k t ≤ 0) n.turns no_turn none))
    where
      none : (i : ℕ) → i < length n.turns → turned_into o k (slice_index_or n.turns i no_turn) ≤ 0
      none i l =
          let t = get_or n.turns i no_turn in
          omega (arith, cond-false (t.to == k + 1) (turned o t) 0 (ne_eqb t.to (k + 1) (λ e. omega (arith, (ok.turned i l).1.1))))
