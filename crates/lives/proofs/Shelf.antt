-- The plans on a shelf, and what a plan that is put there changes.
use Rattle.std.proofs.Common.{◌≡◌, ℕ, zero, suc, ◌≤◌, ◌⊎◌, List, [], ◌∷◌, length, get_or, set, replicate, Some, None, Option, sym, ◌∙◌, subst, inl, inr, ⊎_elim}
use Rattle.std.proofs.lemmas.List.{get_or-set_other}
use Rattle.model.specs.Model.{Meaning, Lawful}
use Rattle.plan.specs.declared.limits.Limit.{Limit}
use Rattle.plan.specs.Check.{Timing, PassesRound}
use Rattle.plan.proofs.Accepts.{checked_passed}
use Rattle.plan_sheet.specs.Accepts.{reads}
use Rattle.plan_sheet.proofs.Accepting.{well_read}
use Rattle.lives.specs.Area.{slot}
use Rattle.lives.specs.Calls.{put}
use Rattle.lives.proofs.Asked.{Shelvable}

-- what every plan on a shelf has: a whole start, a row, and a round that passes
pub record SoundPlan (m : Meaning) (ls : List Limit) (p : Timing) : Type 0 where
  pub whole : length p.start ≡ 64
  pub some : 1 ≤ length p.rows
  pub passes : PassesRound m ls p.start p.rows

abbrev pub SoundShelf : Meaning → List Limit → List (Option Timing) → Type 0
SoundShelf m ls shelf = (n : ℕ) (p : Timing) → slot shelf n ≡ Some p → SoundPlan m ls p

-- a shelf without a plan
bare : (n k : ℕ) (p : Timing) {P : Type 0} → get_or (replicate n None) k None ≡ Some p → P
bare zero k p e = cc
bare (suc n) zero p e = cc
bare (suc n) (suc k) p e = bare n k p e

pub bare_sound : (m : Meaning) (ls : List Limit) → SoundShelf m ls (replicate 8 None)
bare_sound m ls zero p e = cc
bare_sound m ls (suc k) p e = bare 8 k p e

-- what stands on a shelf after a plan is put there is that plan, or it stood there before
set_found :
    (s : List (Option Timing)) (i : ℕ) (p : Timing) (k : ℕ) (q : Timing) → get_or (set s i (Some p)) k None ≡ Some q
    → (p ≡ q) ⊎ (get_or s k None ≡ Some q)
set_found [] i p k q e = inr e
set_found (o ∷ s) zero p zero q e = inl cc
set_found (o ∷ s) zero p (suc k) q e = inr e
set_found (o ∷ s) (suc i) p zero q e = inr e
set_found (o ∷ s) (suc i) p (suc k) q e = set_found s i p k q e

module _ (m : Meaning) (ls : List Limit) (shelf : List (Option Timing)) (n : ℕ) (sheet : List ℕ) (h : Shelvable m ls shelf n sheet) where
  put_is : put n (reads m sheet) shelf ≡ set shelf h.index (Some h.plan)
  put_is = rw (h.number, h.read)

  read_sound : Lawful m → SoundPlan m ls h.plan
  read_sound law =
      let p = h.plan in
      let w = well_read m sheet law p h.read in
      record { whole = w.0; some = w.1; passes = checked_passed m ls law p.start p.rows h.count w.0 h.passed }

  set_sound : Lawful m → SoundShelf m ls shelf → SoundShelf m ls (set shelf h.index (Some h.plan))
  set_sound law s zero p e = cc
  set_sound law s (suc k) p e =
      ⊎_elim (λ same. subst (SoundPlan m ls) same (read_sound law)) (λ old. s (suc k) p old) (set_found shelf h.index h.plan k p e)

  pub put_sound : Lawful m → SoundShelf m ls shelf → SoundShelf m ls (put n (reads m sheet) shelf)
  put_sound law s = subst (SoundShelf m ls) (sym put_is) (set_sound law s)

  set_keeps : (k : ℕ) (p : Timing) → slot shelf k ≡ Some p → slot (set shelf h.index (Some h.plan)) k ≡ Some p
  set_keeps zero p e = e
  set_keeps (suc k) p e =
      let empty : get_or shelf h.index None ≡ None = h.empty in
      get_or-set_other shelf h.index k (Some h.plan) None (λ same. cc) ∙ e

  pub put_keeps : (k : ℕ) (p : Timing) → slot shelf k ≡ Some p → slot (put n (reads m sheet) shelf) k ≡ Some p
  put_keeps k p e = subst (λ s. slot s k ≡ Some p) (sym put_is) (set_keeps k p e)
