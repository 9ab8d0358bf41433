-- Tables of a fixed size that values are written into.
use Rattle.std.specs.Prelude.{ℕ, ◌+◌, ◌≤◌, List, [], ◌∷◌, replicate, slice_set}

-- a table with these values written over it from place k on
abbrev pub written : {A : Type 0} → List A → ℕ → List A → List A
written xs k [] = xs
written xs k (v ∷ vs) = written (slice_set xs k v) (k + 1) vs

-- these numbers, and 0 beyond the last
abbrev pub tabled : ℕ → List ℕ → List ℕ
tabled n vs = written (replicate n 0) 0 vs

-- each number is at most its limit, the first at most that of k
abbrev pub UpTo : (ℕ → ℕ) → ℕ → List ℕ → Type 0
UpTo high k [] = Unit {0}
UpTo high k (v ∷ vs) = (v ≤ high k) × UpTo high (k + 1) vs
