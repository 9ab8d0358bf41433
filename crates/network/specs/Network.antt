-- What a network of links means.
-- Links are counted from 0 here, as the places of a state are, and from 1 in a turn and in an answer.
-- In a step r is the row that counts, q the queues before it within the tops, and v the arrivals within the loads.
use Rattle.std.specs.Prelude.{◌≡◌, ℕ, ◌+◌, ◌-◌, ◌*◌, ◌/◌, ◌%◌, ◌^◌, ◌<◌, ◌≤◌, min, Bool, cond, ◌&&◌, List, [], ◌∷◌, length, get_or, Some, None, fold, sum_by, Option, ◌==◌, nat_lt, slice_index, slice_index_or}
use Rattle.std.specs.List.{AllByRecursion}
use Rattle.model.specs.declared.Answer.{Answer}
use Rattle.model.specs.declared.Answer.TheVariants.{Clear, Held}
use Rattle.model.specs.declared.Cause.TheVariants.{Blocked, Overflow}
use Rattle.model.specs.State.{whole, capped}
use Rattle.model.specs.Model.{Meaning, Core, model, lowest, lit}
use Rattle.network.specs.declared.links.Link.{Link}
use Rattle.network.specs.declared.links.Turn.{Turn}
use Rattle.network.specs.Sound.{no_link, no_turn, PhasesOk, LinksOk, TurnsOk}

-- the phases of each junction, the links and the turns
pub record Roads : Type 0 where
  pub phases : List ℕ
  pub links : List Link
  pub turns : List Turn

-- which numbers they may have
pub record Sound (n : Roads) : Type 0 where
  pub phased : PhasesOk n.phases
  pub some : 1 ≤ length n.links
  pub few : length n.links ≤ 64
  pub linked : LinksOk (length n.phases) n.links
  pub short : length n.turns ≤ 256
  pub turned : TurnsOk (length n.links) n.turns

abbrev pub link : Roads → ℕ → Link
link n k = slice_index_or n.links k no_link

-- the top and the load of each link, and 0 beyond the last
unfoldable pub tops : Roads → List ℕ
tops n = whole (λ k. (link n k).top)

unfoldable pub loads : Roads → List ℕ
loads n = whole (λ k. (link n k).load)

-- the mode of the junction at the head of the link
abbrev pub mode : Link → List ℕ → ℕ
mode l r = slice_index r (l.head - 1)

-- phase p, counted from 0, shows the link green where bit p of its mask is 1
abbrev pub green_in : ℕ → Link → Bool
green_in p l = l.mask / 2 ^ p % 2 == 1

-- the row shows the link green: its mode is one of the phases, counted from 1, that do
abbrev pub green : Link → List ℕ → Bool
green l r = nat_lt 0 (mode l r) && green_in (mode l r - 1) l

-- what link k would let out: nothing at red, and at green its queue, as far as its flow goes
unfoldable pub wish : Roads → List ℕ → List ℕ → ℕ → ℕ
wish n r q k = cond (green (link n k) r) (min (link n k).flow (slice_index q k)) 0

-- the storage that is left in the link that the turn goes to
abbrev pub room : Roads → List ℕ → Turn → ℕ
room n q t = (link n (t.to - 1)).top - slice_index q (t.to - 1)

-- the amount m out of link k fits the turn t
abbrev pub Fits : Roads → List ℕ → ℕ → ℕ → Turn → Type 0
Fits n q k m t = t.from ≡ k + 1 → t.share * m ≤ t.supply * room n q t

-- m is the greatest number not above the wish of link k that fits each turn
pub record Greatest (n : Roads) (r q : List ℕ) (k m : ℕ) : Type 0 where
  pub below : m ≤ wish n r q k
  pub fits : AllByRecursion (Fits n q k m) n.turns
  pub most : (j : ℕ) → j ≤ wish n r q k → AllByRecursion (Fits n q k j) n.turns → j ≤ m

-- the most that the turn t has room for
abbrev pub passage : Roads → List ℕ → Turn → ℕ
passage n q t = t.supply * room n q t / t.share

-- as much of the amount w out of link k as the turn t takes
abbrev pub tightened : Roads → List ℕ → ℕ → ℕ → Turn → ℕ
tightened n q k w t = cond (t.from == k + 1) (min w (passage n q t)) w

-- what link k lets out: its wish, or less where a turn has no room for it
unfoldable pub release : Roads → List ℕ → List ℕ → ℕ → ℕ
release n r q k = fold (tightened n q k) (wish n r q k) n.turns

-- what each link would let out, and what each lets out
unfoldable pub wishes : Roads → List ℕ → List ℕ → List ℕ
wishes n r q = whole (wish n r q)

unfoldable pub releases : Roads → List ℕ → List ℕ → List ℕ
releases n r q = whole (release n r q)

-- the part of the releases o that takes the turn t, rounded down
abbrev pub turned : List ℕ → Turn → ℕ
turned o t = t.share * slice_index o (t.from - 1) / 1000

-- what the turn t brings into link k
abbrev pub turned_into : List ℕ → ℕ → Turn → ℕ
turned_into o k t = cond (t.to == k + 1) (turned o t) 0

-- what all turns bring into link k
unfoldable pub inflow : Roads → List ℕ → ℕ → ℕ
inflow n o k = sum_by (turned_into o k) n.turns

-- the queue of link k once the releases o are gone, the inflow i is in and the arrivals v have come
abbrev pub queue_after : List ℕ → List ℕ → List ℕ → ℕ → ℕ → ℕ
queue_after o q v k i = slice_index q k - slice_index o k + i + slice_index v k

-- the queue of link k after the step, before its top cuts it off
unfoldable pub amount : Roads → List ℕ → List ℕ → List ℕ → ℕ → ℕ
amount n o q v k = queue_after o q v k (inflow n o k)

unfoldable pub amounts : Roads → List ℕ → List ℕ → List ℕ → List ℕ
amounts n o q v = whole (amount n o q v)

-- the queues after the step
unfoldable pub moved : Roads → List ℕ → List ℕ → List ℕ → List ℕ
moved n r q v = capped (tops n) (amounts n (releases n r q) q v)

-- link k with its wish w, release o, amount a and top t:
-- blocked where the release is below the wish, else an overflow where the top cuts the amount off
abbrev pub verdict : ℕ → ℕ → ℕ → ℕ → ℕ → Answer
verdict k w o a t = cond (nat_lt o w) (Held (k + 1) Blocked) (cond (nat_lt t a) (Held (k + 1) Overflow) Clear)

-- the verdict on link k among the wishes, releases, amounts and tops of all links
abbrev pub verdict_at : List ℕ → List ℕ → List ℕ → List ℕ → ℕ → Answer
verdict_at w o a t k = verdict k (slice_index w k) (slice_index o k) (slice_index a k) (slice_index t k)

-- the lowest held link
unfoldable pub judged : Roads → List ℕ → List ℕ → List ℕ → Answer
judged n r q v =
    lowest (length n.links) (verdict_at (wishes n r q) (releases n r q) (amounts n (releases n r q) q v) (tops n))

-- traffic flows: each link lets out its wish, and no top cuts a queue off. The row is clear exactly then.
pub record Flows (n : Roads) (r q v : List ℕ) : Type 0 where
  pub full : (k : ℕ) → k < length n.links → release n r q k ≡ wish n r q k
  pub fit : (k : ℕ) → k < length n.links → amount n (releases n r q) q v k ≤ (link n k).top

-- the answer a to the row r, the state x and the arrivals v is clear exactly where traffic flows
pub record ClearWhereFlows (n : Roads) (r x v : List ℕ) (a : Answer) : Type 0 where
  pub flows : a ≡ Clear → Flows n (lit n.phases r) (capped (tops n) x) (capped (loads n) v)
  pub clear : Flows n (lit n.phases r) (capped (tops n) x) (capped (loads n) v) → a ≡ Clear

abbrev pub core : Roads → Core
core n = record {
  places = length n.links;
  modes = n.phases;
  tops = tops n;
  loads = loads n;
  moved = moved n;
  judged = judged n;
}

abbrev pub network : Roads → Meaning
network n = model (core n)

-- what each link lets out at the row r and the state x
abbrev pub let_out : Roads → List ℕ → List ℕ → List ℕ
let_out n r x = releases n (lit n.phases r) (capped (tops n) x)

-- link p, counted from 1, lets out m: the greatest amount that its wish and its turns allow, and nothing out of range
pub record LetsOut (n : Roads) (r x : List ℕ) (p m : ℕ) : Type 0 where
  pub inside : 1 ≤ p → p ≤ length n.links → Greatest n (lit n.phases r) (capped (tops n) x) (p - 1) m
  pub outside : (1 ≤ p → length n.links < p) → m ≡ 0

-- the turn goes from link a to link b
abbrev pub joins : Turn → ℕ → ℕ → Bool
joins t a b = t.from == a && t.to == b

-- the share of the first turn from link a to link b
abbrev pub share_of : List Turn → ℕ → ℕ → Option ℕ
share_of [] a b = None
share_of (t ∷ ts) a b = cond (joins t a b) (Some t.share) (share_of ts a b)

-- a turn joins link a to link b, with the share s
pub record Turns (ts : List Turn) (a b s : ℕ) : Type 0 where
  pub index : ℕ
  pub inside : index < length ts
  pub from : (get_or ts index no_turn).from ≡ a
  pub to : (get_or ts index no_turn).to ≡ b
  pub share : (get_or ts index no_turn).share ≡ s

-- a share that is told is that of a turn between the two links, and none is told only where no turn joins them
pub record ShareTold (ts : List Turn) (a b : ℕ) (r : Option ℕ) : Type 0 where
  pub joined : (s : ℕ) → r ≡ Some s → Turns ts a b s
  pub apart : r ≡ None → (s : ℕ) → Turns ts a b s → ⊥
