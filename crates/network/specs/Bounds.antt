-- Bounds of products and sums: thousandths of a storage, and what all turns bring.
use Rattle.std.specs.Prelude.{ℕ, ◌+◌, ◌-◌, ◌*◌, ◌<◌, ◌≤◌, List, length, get_or, sum_by, ◌==◌, slice_index, slice_index_or}
use Rattle.std.proofs.Common.{le_trans, mul-le-mul_left, mul-le-mul_right, arith}
use Rattle.std.proofs.ByRecursion.{All-from_get_or, sum_by_le}
use Rattle.std.proofs.lemmas.Bool.{cond_both}
use Rattle.network.specs.Sound.{no_turn}
use Rattle.network.specs.Network.{Roads, Sound, turned, turned_into}

pub product_small : (a b : ℕ) → a ≤ 1000 → b ≤ 100000 → a * b ≤ 100000000
product_small a b h g = le_trans (mul-le-mul_left a g) (mul-le-mul_right 100000 h)

pub inflow_small : (n : Roads) → Sound n → (o : List ℕ) → ((j : ℕ) → slice_index o j ≤ 100000) → (k : ℕ) → sum_by (turned_into o k) n.turns ≤ 25600000
inflow_small n ok o h k =
    omega (arith, sum_by_le (turned_into o k) 100000 n.turns (All-from_get_or (λ t. turned_into o k t ≤ 100000) n.turns no_turn each), ok.short)
  where
    each : (i : ℕ) → i < length n.turns → turned_into o k (slice_index_or n.turns i no_turn) ≤ 100000
    each i l =
        let t = get_or n.turns i no_turn in
        cond_both (t.to == k + 1) (turned o t) 0 (λ x. x ≤ 100000)
        (λ e. omega (arith, product_small t.share (slice_index o (t.from - 1)) (ok.turned i l).2.1 (h (t.from - 1))))
        (λ e. omega arith)
