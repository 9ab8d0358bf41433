-- A model whose step is made from a core obeys the laws where the core does.
use Rattle.std.proofs.Common.{◌≡◌, ℕ, ◌≤◌, Bool, true, false, cond, List, length, replicate, refl, ap, arith}
use Rattle.std.proofs.lemmas.List.{length-replicate}
use Rattle.model.specs.State.{fits_row}
use Rattle.model.specs.declared.Answer.{Answer}
use Rattle.model.specs.declared.Answer.TheVariants.{Clear, Held}
use Rattle.model.specs.Model.{Meaning, Core, CoreLaws, model, Lawful, dark_row, lamps, lit, InRange, Placed}
use Rattle.model.proofs.State.{capped_capped, capped_mono, zeros_fit, fits_end}

pub dark_is : (m : Meaning) → dark_row m ≡ replicate 32 0
unfolding dark_row
dark_is m = refl

-- the row that counts counts as itself
pub lit_lit : (modes r : List ℕ) → lit modes (lit modes r) ≡ lit modes r
lit_lit modes r = go (fits_row modes r) refl
  where
    go : (b : Bool) → fits_row modes r ≡ b → cond (fits_row modes (cond b r (replicate 32 0))) (cond b r (replicate 32 0)) (replicate 32 0) ≡ cond b r (replicate 32 0)
    go true e = ap (λ c. cond c r (replicate 32 0)) e
    go false e = ap (λ c. cond c (replicate 32 0) (replicate 32 0)) (zeros_fit modes)

-- and it is legal
pub lit_fits : (modes r : List ℕ) → fits_row modes (lit modes r) ≡ true
lit_fits modes r = go (fits_row modes r) refl
  where
    go : (b : Bool) → fits_row modes r ≡ b → fits_row modes (cond b r (replicate 32 0)) ≡ true
    go true e = e
    go false e = zeros_fit modes

-- the row that counts, by the modes of its core
pub lamps_lit : (c : Core) (r : List ℕ) → lamps (model c) r ≡ lit c.modes r
lamps_lit c r = ap (λ d. cond (fits_row c.modes r) r d) (dark_is (model c))

module _ (c : Core) (ok : CoreLaws c) where
  few_tops : length c.tops ≤ 64
  few_tops = omega (arith, ok.whole_tops)

  few_loads : length c.loads ≤ 64
  few_loads = omega (arith, ok.whole_loads)

  placed_in : (a : Answer) → Placed c a → InRange (model c) a
  placed_in Clear h = tt
  placed_in (Held p e) h = h

  pub lawful : Lawful (model c)
  lawful =
      record {
        few_places = ok.few_places;
        few_signals = ok.few_signals;
        whole_tops = ok.whole_tops;
        whole_loads = ok.whole_loads;
        low_tops = ok.low_tops;
        high_tops = ok.high_tops;
        end_tops = ok.end_tops;
        loads_in_tops = ok.loads_in_tops;
        whole_dark = rw (dark_is (model c)) (length-replicate {A = ℕ} 32 0);
        legal_dark = rw (dark_is (model c)) (zeros_fit c.modes);
        legal_end = fits_end c.modes;
        same_next = λ r x v.
            let e = lamps_lit c r in
            let a = lit_lit c.modes r in
            let b = capped_capped c.tops few_tops x in
            let d = capped_capped c.loads few_loads v in
            cc;
        same_answer = λ r x v.
            let e = lamps_lit c r in
            let a = lit_lit c.modes r in
            let b = capped_capped c.tops few_tops x in
            let d = capped_capped c.loads few_loads v in
            cc;
        whole_next = λ r x v. ok.whole_moved _ _ _;
        within = λ r x v. ok.within _ _ _;
        held_place = λ r x v. placed_in _ (ok.held_place _ _ _);
        order_clear = λ r x y v w h g e. ok.clear _ _ _ _ _ (capped_mono c.tops few_tops x y h) (capped_mono c.loads few_loads v w g) e;
        order_next = λ r x y v w h g e. ok.order _ _ _ _ _ (capped_mono c.tops few_tops x y h) (capped_mono c.loads few_loads v w g) e;
      }
