-- Where an entry stands among the entries.
use Rattle.std.proofs.Common.{ℕ, ◌+◌, ◌-◌, ◌*◌, ◌<◌, ◌≤◌, ap, ◌∙◌, mul_comm, arith}
use Rattle.std.proofs.lemmas.Nat.{mul-add-lt}

pub entry_inside : (m i j p modes : ℕ) → 1 ≤ m → m ≤ modes → i < p → j < p → ((m - 1) * p + i) * p + j < modes * p * p
entry_inside m i j p modes a b c d =
    rw (mul_comm (modes * p) p ∙ ap (λ z. p * z) (mul_comm modes p))
    (mul-add-lt ((m - 1) * p + i) p j (p * modes) (mul-add-lt (m - 1) p i modes (omega arith) c) d)
