-- A life over a network: a plan is shelved and taken and a row shown, and the area is covered.
use Rattle.std.proofs.Common.{◌≡◌, ℕ, zero, suc, ◌<◌, ◌≤◌, true, List, [], ◌∷◌, get_or, replicate, Some, None, Ok, codes, sym, refl, ap, ◌∙◌, subst, arith, lit≤}
use Rattle.std.proofs.lemmas.Bool.{both_ways}
use Rattle.model.specs.State.{Within, whole, capped, every}
use Rattle.model.specs.Model.{Lawful, dark_row, lowest}
use Rattle.model.proofs.State.{none_above}
use Rattle.street.specs.declared.Showing.TheVariants.{Shown}
use Rattle.street.specs.Street.{Seen, Bounded}
use Rattle.plan.specs.declared.limits.Limit.{Limit}
use Rattle.plan.specs.Check.{Timing, checked}
use Rattle.plan_sheet.specs.Accepts.{reads}
use Rattle.words.specs.Tables.{written, tabled}
use Rattle.network.specs.Sound.{LinksOk, TurnsOk}
use Rattle.network.specs.Network.{Roads, network, tops, loads, wish, wishes, release, releases, inflow, amount, amounts, moved, judged}
use Rattle.network.specs.Laws.{lawful}
use Rattle.lives.specs.declared.state.State.TheVariants.{OffLine, Covered}
use Rattle.lives.specs.Area.{Area, fresh_book, stepped}
use Rattle.lives.specs.Calls.{shelve, take, advance, rows, duty, street, no_in, Answers, count_in, put, done_to, Calls}
use Rattle.lives.specs.Lives.{fresh, then}
use Rattle.lives.specs.Promises.{CoveredLife}
use Rattle.lives.proofs.Shelving.{only_check}

-- two junctions, a road between them, and two roads into the first
abbrev crossing : Roads
crossing =
    record {
      phases = 2 ∷ 2 ∷ [];
      links =
          record { name = tabled 8 (codes "a"); tail = 0; head = 1; top = 200; flow = 60; load = 20; mask = 1 }
          ∷ record { name = tabled 8 (codes "b"); tail = 1; head = 2; top = 100; flow = 50; load = 0; mask = 1 }
          ∷ record { name = tabled 8 (codes "c"); tail = 0; head = 1; top = 200; flow = 40; load = 10; mask = 2 }
          ∷ [];
      turns =
          record { from = 1; to = 2; share = 500; supply = 1000 }
          ∷ record { from = 3; to = 2; share = 250; supply = 1000 }
          ∷ [];
    }

-- its numbers are in their ranges
each_phased : (k : ℕ) → k < 2 → (1 ≤ get_or crossing.phases k 0) × (get_or crossing.phases k 0 ≤ 8)
each_phased zero h = (lit≤ tt, lit≤ tt)
each_phased (suc zero) h = (lit≤ tt, lit≤ tt)
each_phased (suc (suc k)) h = absurd (omega arith)

linked : LinksOk 2 crossing.links
linked zero h = ((lit≤ tt, lit≤ tt, lit≤ tt), (lit≤ tt, lit≤ tt), (lit≤ tt, lit≤ tt))
linked (suc zero) h = ((lit≤ tt, lit≤ tt, lit≤ tt), (lit≤ tt, lit≤ tt), (lit≤ tt, lit≤ tt))
linked (suc (suc zero)) h = ((lit≤ tt, lit≤ tt, lit≤ tt), (lit≤ tt, lit≤ tt), (lit≤ tt, lit≤ tt))
linked (suc (suc (suc k))) h = absurd (omega arith)

turned : TurnsOk 3 crossing.turns
turned zero h = ((lit≤ tt, lit≤ tt), (lit≤ tt, lit≤ tt), (lit≤ tt, lit≤ tt, lit≤ tt))
turned (suc zero) h = ((lit≤ tt, lit≤ tt), (lit≤ tt, lit≤ tt), (lit≤ tt, lit≤ tt, lit≤ tt))
turned (suc (suc k)) h = absurd (omega arith)

crossing_lawful : Lawful (network crossing)
crossing_lawful =
    lawful crossing (record { phased = (lit≤ tt, lit≤ tt, each_phased); some = lit≤ tt; few = lit≤ tt; linked = linked; short = lit≤ tt; turned = turned })

-- the first and the third road together have at most 50
abbrev limits : List Limit
limits =
    record {
      bound = 50;
      count = 2;
      terms = written (replicate 8 (record { place = 0; weight = 0 })) 0 (record { place = 1; weight = 1 } ∷ record { place = 3; weight = 1 } ∷ []);
    }
    ∷ []

-- the sheet, and the plan that it says
abbrev sheet : List ℕ
sheet = codes "start 3 40 25 10 rows 2 1 1 2 2"

abbrev plan : Timing
plan = record { start = tabled 64 (40 ∷ 25 ∷ 10 ∷ []); rows = tabled 32 (1 ∷ 1 ∷ []) ∷ tabled 32 (2 ∷ 2 ∷ []) ∷ [] }

sheet_reads : reads (network crossing) sheet ≡ Ok plan
unfolding reads tops whole every
sheet_reads = refl

plan_checked : checked (network crossing) limits plan.start plan.rows ≡ Ok 2
unfolding tops loads whole capped every dark_row wish wishes release releases inflow amount amounts moved judged lowest
plan_checked = refl

-- What arrives, and the street before the step and after it.

abbrev arriving : List ℕ
arriving = tabled 64 (15 ∷ 0 ∷ 5 ∷ [])

abbrev at_first : Seen
at_first = record { queues = tabled 64 (35 ∷ 20 ∷ 10 ∷ []); lamps = replicate 32 0; arrivals = arriving }

abbrev at_last : Seen
at_last =
    record {
      queues = (network crossing).next (tabled 32 (1 ∷ 1 ∷ [])) at_first.queues arriving;
      lamps = tabled 32 (1 ∷ 1 ∷ []);
      arrivals = arriving;
    }

arriving_within : Within arriving (loads crossing)
unfolding loads whole
arriving_within = record { size = refl; below = none_above arriving (loads crossing) refl refl }

at_first_bounded : Bounded (network crossing) at_first
unfolding tops whole every
at_first_bounded =
    record {
      queues = record { size = refl; below = none_above at_first.queues (tops crossing) refl refl };
      row = refl;
      legal = refl;
      arrivals = arriving_within;
    }

-- The areas of the life.

abbrev new : Area
new = record { number = 7; book = fresh_book (network crossing); street = at_first }

abbrev shelved : Area
shelved = record {
  number = 7;
  book = record { shelf = Some plan ∷ replicate 7 None; state = OffLine; on = 0; row = 0; envelope = tops crossing };
  street = at_first;
}

abbrev taken : Area
taken = record { number = 7; book = done_to (network crossing) limits (take 1) (duty 7) shelved.book; street = at_first }

abbrev moved_on : Area
moved_on = record { number = 7; book = stepped (network crossing) limits Shown taken.book; street = at_last }

shelving : Calls (network crossing) limits new (shelve 1 sheet) (Ok (rows 2)) shelved
shelving =
    record {
      answer =
          let q = only_check (network crossing) limits new 1 sheet plan (lit≤ tt) (lit≤ tt) refl sheet_reads in
          subst (λ r. Answers (network crossing) new (shelve 1 sheet) r (Ok (rows 2))) (sym (q ∙ ap no_in plan_checked))
          (ap (λ t. rows (count_in t)) (sym sheet_reads));
      book = ap (λ t. record { shelf = put 1 t (replicate 8 None); state = OffLine; on = 0; row = 0; envelope = tops crossing }) (sym sheet_reads);
      street = refl;
      number = refl;
    }

taking : Calls (network crossing) limits shelved (take 1) (Ok (duty 7)) taken
taking = record { answer = refl; book = refl; street = refl; number = refl }

row_legal : (network crossing).legal (tabled 32 (1 ∷ 1 ∷ [])) ≡ true
unfolding every
row_legal = refl

advancing : Calls (network crossing) limits taken (advance 7) (Ok (street Shown)) moved_on
advancing =
    record {
      answer = (Shown, refl);
      book = refl;
      street = record { lamps = refl; arrivals = arriving_within; queues = refl; illegal = λ e. absurd (both_ways _ e row_legal) };
      number = refl;
    }

stays_covered : moved_on.book.state ≡ Covered
unfolding tops loads whole capped every dark_row wish wishes release releases inflow amount amounts moved judged lowest
stays_covered = refl

pub covered_life : CoveredLife
covered_life =
    record {
      roads = crossing;
      lawful = crossing_lawful;
      limits = limits;
      number = 7;
      sheet = sheet;
      count = 2;
      area = moved_on;
      life = then (then (then (fresh 7 at_first at_first_bounded) shelving) taking) advancing;
      is_covered = stays_covered;
    }
