-- A row is clear exactly where traffic flows, and where it flows for more it flows for less.
use Rattle.std.specs.Prelude.{◌≡◌, ℕ, ◌+◌, ◌-◌, ◌<◌, ◌≤◌, min, Bool, true, false, cond, List, [], ◌∷◌, length, sum_by, ◌==◌, nat_lt, slice_index, slice_index_or}
use Rattle.std.proofs.Common.{sym, ◌∙◌, ⊎_elim, le_refl, le_trans, le_antisymm, mul-le-mul_left}
use native.Mathlib.Omega.{arith}
use Rattle.std.proofs.ByRecursion.{All-weaker}
use Rattle.std.proofs.lemmas.List.Sums.{sum_by-cons}
use Rattle.std.proofs.lemmas.Bool.{cond-false, ltb-false, le-ltb, cases_lt}
use Rattle.model.specs.declared.Answer.{Answer}
use Rattle.model.specs.declared.Answer.TheVariants.{Clear}
use Rattle.model.specs.declared.Cause.TheVariants.{Blocked, Overflow}
use Rattle.model.specs.State.{Below}
use Rattle.model.proofs.State.{slice_index_whole, capped_mono}
use Rattle.model.proofs.Answers.{lowest_clear, lowest_all, clear_cond}
use Rattle.network.specs.declared.links.Turn.{Turn}
use Rattle.network.specs.Network.{Roads, Sound, link, tops, green, wish, wishes, room, Fits, release, releases, turned, turned_into, inflow, amount, amounts, verdict_at, moved, judged, Greatest, Flows, ClearWhereFlows, network}
use Rattle.network.specs.Easing.{release_greatest}
use Rattle.network.specs.Whole.{whole_mono}
use Rattle.network.specs.Sizes.{length_tops, slice_index_tops, wish_past, slice_index_releases, release_past}

-- the verdict on a link
module _ (w o a t : List ℕ) (k : ℕ) where
  verdict_clear : verdict_at w o a t k ≡ Clear → (slice_index w k ≤ slice_index o k) × (slice_index a k ≤ slice_index t k)
  verdict_clear e =
      let f = clear_cond (nat_lt (slice_index o k) (slice_index w k)) (k + 1) Blocked _ e in
      let g = clear_cond (nat_lt (slice_index t k) (slice_index a k)) (k + 1) Overflow Clear f.1 in
      (ltb-false _ _ f.0, ltb-false _ _ g.0)

  clear_verdict : slice_index_or w k 0 ≤ slice_index o k → slice_index a k ≤ slice_index t k → verdict_at w o a t k ≡ Clear
  clear_verdict h g = cond-false _ _ _ (le-ltb _ _ h) ∙ cond-false _ _ _ (le-ltb _ _ g)

module _ (n : Roads) (ok : Sound n) (r q v : List ℕ) where
  slice_index_wishes : (k : ℕ) → k < length n.links → slice_index (wishes n r q) k ≡ wish n r q k
  unfolding wishes
  slice_index_wishes k h = slice_index_whole (wish n r q) k (omega (arith, ok.few))

  slice_index_amounts : (o : List ℕ) (k : ℕ) → k < length n.links → slice_index (amounts n o q v) k ≡ amount n o q v k
  unfolding amounts
  slice_index_amounts o k h = slice_index_whole (amount n o q v) k (omega (arith, ok.few))

  pub clear_flows : judged n r q v ≡ Clear → Flows n r q v
  unfolding judged
  clear_flows e =
      record {
        full = λ k h. omega (arith, (at k h).0, slice_index_wishes k h, slice_index_releases n ok r q k, (release_greatest n ok r q k).below);
        fit = λ k h. omega (arith, (at k h).1, slice_index_amounts (releases n r q) k h, slice_index_tops n ok k);
      }
    where
      at : (k : ℕ) → k < length n.links → (slice_index (wishes n r q) k ≤ slice_index (releases n r q) k) × (slice_index (amounts n (releases n r q) q v) k ≤ slice_index (tops n) k)
      at k h = verdict_clear (wishes n r q) (releases n r q) (amounts n (releases n r q) q v) (tops n) k (lowest_clear (length n.links) (verdict_at (wishes n r q) (releases n r q) (amounts n (releases n r q) q v) (tops n)) e k h)

  pub flows_clear : Flows n r q v → judged n r q v ≡ Clear
  unfolding judged
  flows_clear f =
      lowest_all (length n.links) (verdict_at (wishes n r q) (releases n r q) (amounts n (releases n r q) q v) (tops n))
      (λ k h.
      clear_verdict (wishes n r q) (releases n r q) (amounts n (releases n r q) q v) (tops n) k
      (omega (arith, f.full k h, slice_index_wishes k h, slice_index_releases n ok r q k))
      (omega (arith, f.fit k h, slice_index_amounts (releases n r q) k h, slice_index_tops n ok k)))

-- what is told is clear exactly where traffic flows
pub flows_exactly : (n : Roads) → Sound n → (r x v : List ℕ) (a : Answer) → a ≡ (network n).answer r x v → ClearWhereFlows n r x v a
flows_exactly n ok r x v a e =
    record { flows = λ c. clear_flows n ok _ _ _ (sym e ∙ c); clear = λ f. e ∙ flows_clear n ok _ _ _ f }

sum_by_mono : (f g : Turn → ℕ) → ((t : Turn) → f t ≤ g t) → (ts : List Turn) → sum_by f ts ≤ sum_by g ts
sum_by_mono f g h [] = le_refl 0
sum_by_mono f g h (t ∷ ts) = omega (arith, sum_by-cons f t ts, sum_by-cons g t ts, h t, sum_by_mono f g h ts)

inflow_mono : (n : Roads) (o p : List ℕ) → Below o p → (k : ℕ) → inflow n o k ≤ inflow n p k
unfolding inflow
inflow_mono n o p h k = sum_by_mono (turned_into o k) (turned_into p k) each n.turns
  where
    each : (t : Turn) → turned_into o k t ≤ turned_into p k t
    each t = go (t.to == k + 1)
      where
        go : (b : Bool) → cond b (turned o t) 0 ≤ cond b (turned p t) 0
        go true = omega (arith, mul-le-mul_left t.share (h (t.from - 1)))
        go false = omega arith

module _ (n : Roads) (ok : Sound n) (r x y : List ℕ) (h : Below x y) where
  wish_mono : (k : ℕ) → wish n r x k ≤ wish n r y k
  unfolding wish
  wish_mono k = go (green (link n k) r)
    where
      go : (b : Bool) → cond b (min (link n k).flow (slice_index x k)) 0 ≤ cond b (min (link n k).flow (slice_index y k)) 0
      go true = omega (arith, h k)
      go false = omega arith

  -- what stays behind at a green light, and at a red one
  rest_mono : (k : ℕ) → slice_index x k - wish n r x k ≤ slice_index y k - wish n r y k
  unfolding wish
  rest_mono k = go (green (link n k) r)
    where
      go : (b : Bool) → slice_index x k - cond b (min (link n k).flow (slice_index x k)) 0 ≤ slice_index y k - cond b (min (link n k).flow (slice_index y k)) 0
      go true = omega (arith, h k)
      go false = omega (arith, h k)

  -- less in the queues leaves more room, and less out of a link takes less of it
  fits_mono : (k i j : ℕ) → i ≤ j → (t : Turn) → Fits n y k j t → Fits n x k i t
  fits_mono k i j l t f e =
      let more : room n y t ≤ room n x t = omega (arith, h (t.to - 1)) in
      le_trans (mul-le-mul_left t.share l) (le_trans (f e) (mul-le-mul_left t.supply more))

  -- a link that can let out its wish can do so from less
  full_mono : (k m : ℕ) → Greatest n r x k m → Greatest n r y k (wish n r y k) → m ≡ wish n r x k
  full_mono k m a b =
      le_antisymm a.below
      (a.most (wish n r x k) (le_refl _)
      (All-weaker (Fits n y k (wish n r y k)) (Fits n x k (wish n r x k)) (fits_mono k (wish n r x k) (wish n r y k) (wish_mono k)) n.turns b.fits))

module _ (n : Roads) (ok : Sound n) (r x y v w : List ℕ) (h : Below x y) (g : Below v w) (f : Flows n r y w) where
  full_there : (k : ℕ) → release n r y k ≡ wish n r y k
  full_there k =
      ⊎_elim (λ l. f.full k l) (λ l. release_past n ok r y k l ∙ sym (wish_past n k l r y)) (cases_lt k (length n.links))

  full_here : (k : ℕ) → release n r x k ≡ wish n r x k
  full_here k = full_mono n ok r x y h k (release n r x k) (release_greatest n ok r x k) (rw (full_there k) at (release_greatest n ok r y k))

  releases_mono : Below (releases n r x) (releases n r y)
  unfolding releases
  releases_mono = whole_mono (release n r x) (release n r y) (λ k. omega (arith, full_here k, full_there k, wish_mono n ok r x y h k))

  amount_mono : (k : ℕ) → amount n (releases n r x) x v k ≤ amount n (releases n r y) y w k
  unfolding amount
  amount_mono k =
      omega (
        arith,
        slice_index_releases n ok r x k,
        slice_index_releases n ok r y k,
        full_here k,
        full_there k,
        rest_mono n ok r x y h k,
        inflow_mono n (releases n r x) (releases n r y) releases_mono k,
        g k,
      )

  flows_less : Flows n r x v
  flows_less = record { full = λ k l. full_here k; fit = λ k l. le_trans (amount_mono k) (f.fit k l) }

  moved_less : Below (moved n r x v) (moved n r y w)
  unfolding moved amounts
  moved_less =
      capped_mono (tops n) (omega (arith, length_tops n)) _ _ (whole_mono (amount n (releases n r x) x v) (amount n (releases n r y) y w) amount_mono)

-- the order law
module _ (n : Roads) (ok : Sound n) (r x y v w : List ℕ) (h : Below x y) (g : Below v w) (c : judged n r y w ≡ Clear) where
  pub order_clear : judged n r x v ≡ Clear
  order_clear = flows_clear n ok r x v (flows_less n ok r x y v w h g (clear_flows n ok r y w c))

  pub order_next : Below (moved n r x v) (moved n r y w)
  order_next = moved_less n ok r x y v w h g (clear_flows n ok r y w c)
