-- A turn is read exactly where its words stand and it fits to those before it.
use Rattle.std.proofs.Common.{◌≡◌, ℕ, ◌+◌, ◌≤◌, false, eqb, leb, List, [], ◌∷◌, Ok, sum_by, refl, ap, ◌∙◌, subst, ⊎_elim, arith}
use Rattle.std.specs.List.{AllByRecursion}
use Rattle.std.proofs.lemmas.Bool.{cond-true, cond-false, cases_Bool, both_ways, and_parts, and_from, or_parts, or_from, eq-eqb, eqb-true, leb-true, le-leb}
use Rattle.refusal.proofs.Turning.{ok_same}
use Rattle.words.proofs.Due.{due, found}
use Rattle.words.specs.declared.recorded.Recorded.{Recorded}
use Rattle.records.proofs.Exactness.{Exact}
use Rattle.model.specs.State.{every}
use Rattle.model.proofs.State.{every_at, every_from}
use Rattle.network.specs.declared.links.Link.{Link}
use Rattle.network.specs.declared.links.Turn.{Turn}
use Rattle.network.specs.Network.{joins}
use Rattle.network_sheet.specs.Turns.{numbered, goes_on, given_in, share_from, within_supply, has_room, fits_turns, turn_at, TurnFits, TurnSaid}
use Rattle.network_sheet.proofs.Asked.{passed, passed_not}

-- no turn has the pair of t
abbrev OtherPair : Turn → Turn → Type 0
OtherPair t u = u.from ≡ t.from → u.to ≡ t.to → ⊥

not_given : (t : Turn) (ts : List Turn) → given_in t.from t.to ts ≡ false → AllByRecursion (OtherPair t) ts
not_given t [] h = tt
not_given t (u ∷ us) h =
    let p = or_parts (joins u t.from t.to) (given_in t.from t.to us) h in
    (λ a b. both_ways _ p.0 (and_from _ _ (eq-eqb u.from t.from a) (eq-eqb u.to t.to b)), not_given t us p.1)

given_not : (t : Turn) (ts : List Turn) → AllByRecursion (OtherPair t) ts → given_in t.from t.to ts ≡ false
given_not t [] h = refl
given_not t (u ∷ us) h =
    let other : joins u t.from t.to ≡ false = ⊎_elim (λ e. let p = and_parts (eqb u.from t.from) (eqb u.to t.to) e in absurd (h.0 (eqb-true u.from t.from p.0) (eqb-true u.to t.to p.1))) (λ e. e) (cases_Bool (joins u t.from t.to)) in
    or_from _ _ other (given_not t us h.1)

module _ (links : List Link) (before : List Turn) (p : ℕ) (q : Recorded Turn) where
  turn_fits : (r : Recorded Turn) → fits_turns links before p q ≡ Ok r → (q ≡ r) × TurnFits links before q.item
  turn_fits r h =
      let t : Turn = q.item in
      let on = passed (goes_on links t) 8 p _ r h in
      let new = passed_not (given_in t.from t.to before) 8 p _ r on.1 in
      let room = passed (has_room links before t) 9 p (Ok q) r new.1 in
      let parts = and_parts (leb (sum_by (share_from t.from) before + t.share) 1000) (every 8 (within_supply links before t)) room.0 in (
        ok_same room.1,
        record {
          meets = eqb-true (numbered links t.to).tail (numbered links t.from).head on.0;
          once = not_given t before new.0;
          shared = leb-true _ 1000 parts.0;
          supplied = λ phase l. leb-true _ 1000 (every_at 8 (within_supply links before t) parts.1 phase l);
        },
      )

  fits_turn : TurnFits links before q.item → fits_turns links before p q ≡ Ok q
  fits_turn f =
      let t : Turn = q.item in
      cond-true _ _ _ (eq-eqb (numbered links t.to).tail (numbered links t.from).head f.meets)
      ∙ cond-false _ _ _ (given_not t before f.once)
      ∙ cond-true _ _ _ (and_from _ _ (le-leb _ 1000 f.shared) (every_from 8 (within_supply links before t) (λ phase l. le-leb _ 1000 (f.supplied phase l))))

module _ (bs : List ℕ) (links : List Link) (count : ℕ) (few : count ≤ 64) where
  turn_stands : (before : List Turn) (at : ℕ) (r : Recorded Turn) → turn_at bs links count at before ≡ Ok r → TurnSaid bs links count before at r.item r.end
  turn_stands before at r h =
      let from = due bs at 1 count _ r h in
      let to = due bs from.0.end 1 count _ r from.2 in
      let share = due bs to.0.end 1 1000 _ r to.2 in
      let supply = due bs share.0.end 1 1000 _ r share.2 in
      let q : Recorded Turn = record { item = record { from = from.0.value; to = to.0.value; share = share.0.value; supply = supply.0.value }; end = supply.0.end } in
      let w = turn_fits links before from.0.place q r supply.2 in
      subst (λ u. TurnSaid bs links count before at u.item u.end) w.0 (record {
        good = record { some_from = from.1.above; from = from.1.below; some_to = to.1.above; to = to.1.below; some_share = share.1.above; share = share.1.below; some_supply = supply.1.above; supply = supply.1.below };
        fits = w.1;
        words = (from.0.end, from.1.next, (to.0.end, to.1.next, (share.0.end, share.1.next, (supply.0.end, supply.1.next, refl))));
      })

  turn_reads : (before : List Turn) (at : ℕ) (t : Turn) (to : ℕ) → TurnSaid bs links count before at t to → turn_at bs links count at before ≡ Ok (record { item = t; end = to })
  turn_reads before at t to s =
      let g = s.good in
      let w0 = s.words in
      let w1 = w0.2 in
      let w2 = w1.2 in
      let w3 = w2.2 in
      found bs at 1 count t.from w0.0 _ w0.1 g.some_from g.from (omega (arith, g.from))
      ∙ found bs w0.0 1 count t.to w1.0 _ w1.1 g.some_to g.to (omega (arith, g.to))
      ∙ found bs w1.0 1 1000 t.share w2.0 _ w2.1 g.some_share g.share (omega (arith, g.share))
      ∙ found bs w2.0 1 1000 t.supply w3.0 _ w3.1 g.some_supply g.supply (omega (arith, g.supply))
      ∙ fits_turn links before _ (record { item = t; end = w3.0 }) s.fits
      ∙ ap (λ e. Ok (record { item = t; end = e })) w3.2

  pub turn_exact : Exact (turn_at bs links count) (TurnSaid bs links count)
  turn_exact = record { says = turn_stands; reads = turn_reads }
