-- The numbers of each place: within their ranges, and 0 past the last place.
use Rattle.std.specs.Prelude.{◌≡◌, ℕ, ◌-◌, ◌<◌, ◌≤◌, List, length, slice_index, Option, MatchOption}
use Rattle.std.specs.Slice.{IsItemAt}
use denote.Ref.{Bor}
use Rattle.linear.specs.declared.place.Place.{Place}
use Rattle.std.proofs.Common.{ap, refl, arith}
use Rattle.std.proofs.lemmas.List.{get_or_past}
use Rattle.std.proofs.lemmas.Bool.{cond-true, cond-false, lt-ltb, le-ltb}
use Rattle.model.specs.State.{Below, told}
use Rattle.model.proofs.State.{length_whole, slice_index_whole_all}
use Rattle.model.proofs.Numbers.{number_at, number_past, number_small, number_told, numbers_below}
use Rattle.linear.specs.Sound.{no_place}
use Rattle.linear.specs.Lines.{Lines, Sound, place, tops, loads, inside, amount, amounts}

pub length_tops : (n : Lines) → length (tops n) ≡ 64
unfolding tops
length_tops n = length_whole _

pub length_loads : (n : Lines) → length (loads n) ≡ 64
unfolding loads
length_loads n = length_whole _

pub length_amounts : (n : Lines) (m : ℕ) (x v : List ℕ) → length (amounts n m x v) ≡ 64
unfolding amounts
length_amounts n m x v = length_whole _

module _ (n : Lines) (k : ℕ) (h : length n.places ≤ k) where
  pub top_past : (place n k).top ≡ 0
  top_past = ap (λ p. p.top) (get_or_past n.places k no_place h)

  pub load_past : (place n k).load ≡ 0
  load_past = ap (λ p. p.load) (get_or_past n.places k no_place h)

pub inside_past : (n : Lines) (k : ℕ) → length n.places ≤ k → (f : ℕ → ℕ) → inside n f k ≡ 0
inside_past n k h f = cond-false _ _ _ (le-ltb k (length n.places) h)

pub inside_at : (n : Lines) (k : ℕ) → k < length n.places → (f : ℕ → ℕ) → inside n f k ≡ f k
inside_at n k h f = cond-true _ _ _ (lt-ltb k (length n.places) h)

module _ (n : Lines) (ok : Sound n) where
  few : length n.places ≤ 64
  few = omega (arith, ok.few)

  pub slice_index_tops : (k : ℕ) → slice_index (tops n) k ≡ (place n k).top
  unfolding tops
  slice_index_tops k = number_at n.places no_place few (λ p. p.top) refl k

  pub slice_index_loads : (k : ℕ) → slice_index (loads n) k ≡ (place n k).load
  unfolding loads
  slice_index_loads k = number_at n.places no_place few (λ p. p.load) refl k

  pub tops_past : (k : ℕ) → length n.places ≤ k → slice_index (tops n) k ≡ 0
  unfolding tops
  tops_past k h = number_past n.places no_place few (λ p. p.top) refl k h

  pub top_high : (k : ℕ) → slice_index (tops n) k ≤ 100000
  unfolding tops
  top_high k = number_small n.places no_place few (λ p. p.top) refl 100000 (λ j h. (ok.placed j h).1) k

  pub load_top : Below (loads n) (tops n)
  unfolding tops loads
  load_top = numbers_below n.places no_place few (λ p. p.load) (λ p. p.top) refl refl (λ k h. (ok.placed k h).2)

  -- what is told of the place that stands at index k, where one does
  module _ (p k : ℕ) (h : 1 ≤ p) (i : k ≡ p - 1) (l : Option (Bor Place)) (e : IsItemAt n.places k l) where
    pub top_told : MatchOption l (told (tops n) p ≡ 0) (λ x. x.now.top ≡ told (tops n) p)
    unfolding tops
    top_told = number_told n.places no_place few (λ x. x.top) refl p k h i l e

    pub load_told : MatchOption l (told (loads n) p ≡ 0) (λ x. x.now.load ≡ told (loads n) p)
    unfolding loads
    load_told = number_told n.places no_place few (λ x. x.load) refl p k h i l e

  pub slice_index_amounts : (m : ℕ) (x v : List ℕ) (k : ℕ) → slice_index (amounts n m x v) k ≡ inside n (amount n m x v) k
  unfolding amounts
  slice_index_amounts m x v k = slice_index_whole_all (inside n (amount n m x v)) (λ j h. inside_past n j (omega (arith, ok.few)) (amount n m x v)) k
