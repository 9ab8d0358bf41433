-- The records of the section `turns`. Phases are counted from 0 here, as the bits of a mask are.
use Rattle.std.specs.Prelude.{◌≡◌, ℕ, ◌+◌, ◌-◌, ◌<◌, ◌≤◌, Bool, cond, ◌&&◌, List, [], ◌∷◌, Ok, decimal, sum_by, ◌==◌, ◌≢◌, nat_le, slice_index_or}
use Rattle.std.specs.List.{AllByRecursion, list_any}
use Rattle.refusal.specs.Questions.{Told, no, then}
use Rattle.words.specs.Numbers.{number_at}
use Rattle.words.specs.Spelling.{Spelled}
use Rattle.words.specs.declared.recorded.Recorded.{Recorded}
use Rattle.records.specs.Sections.{Reader}
use Rattle.model.specs.State.{every}
use Rattle.network.specs.declared.links.Link.{Link}
use Rattle.network.specs.declared.links.Turn.{Turn}
use Rattle.network.specs.Sound.{no_link}
use Rattle.network.specs.Network.{joins, green_in}

-- a link by its number, counted from 1
abbrev pub numbered : List Link → ℕ → Link
numbered links n = slice_index_or links (n - 1) no_link

-- the link `to` begins where the link `from` ends
abbrev pub goes_on : List Link → Turn → Bool
goes_on links t = (numbered links t.to).tail == (numbered links t.from).head

-- the pair is given among the turns
abbrev pub given_in : ℕ → ℕ → List Turn → Bool
given_in from to = list_any (λ t. joins t from to)

-- what the turn adds to the shares of the link `from`
abbrev pub share_from : ℕ → Turn → ℕ
share_from from t = cond (t.from == from) t.share 0

-- what the turn adds to the supplies into the link `to` in the phase: nothing where its own link is red then
abbrev pub supply_into : List Link → ℕ → ℕ → Turn → ℕ
supply_into links phase to t = cond (t.to == to && green_in phase (numbered links t.from)) t.supply 0

-- the supplies into the turn's link in the phase, that of the turn with them, are at most 1000
abbrev pub within_supply : List Link → List Turn → Turn → ℕ → Bool
within_supply links before t phase =
    nat_le (sum_by (supply_into links phase t.to) before + supply_into links phase t.to t) 1000

-- the shares of the turn's link, that of the turn with them, are at most 1000, and so are the supplies in each phase
abbrev pub has_room : List Link → List Turn → Turn → Bool
has_room links before t =
    nat_le (sum_by (share_from t.from) before + t.share) 1000 && every 8 (within_supply links before t)

-- after the record, which begins at p:
-- question 8: does `to` begin where `from` ends, and is the pair not given before?
-- question 9: is there room for its share and its supply?
abbrev pub fits_turns : List Link → List Turn → ℕ → Recorded Turn → Told (Recorded Turn)
fits_turns links before p r =
    cond (goes_on links r.item)
    (cond (given_in r.item.from r.item.to before) (no 8 p)
    (cond (has_room links before r.item) (Ok r) (no 9 p)))
    (no 8 p)

-- the words of a turn in order, and then how it fits to those before it
abbrev pub turn_at : List ℕ → List Link → ℕ → Reader Turn
turn_at bs links count at before =
    then (number_at bs at 1 count) (λ from.
    then (number_at bs from.end 1 count) (λ to.
    then (number_at bs to.end 1 1000) (λ share.
    then (number_at bs share.end 1 1000) (λ supply.
    fits_turns links before from.place (record { item = record { from = from.value; to = to.value; share = share.value; supply = supply.value }; end = supply.end })))))

-- the words of a turn
abbrev pub turn_text : Turn → List (List ℕ)
turn_text t = decimal t.from ∷ decimal t.to ∷ decimal t.share ∷ decimal t.supply ∷ []

-- each number of the turn in its range
pub record TurnOf (count : ℕ) (t : Turn) : Type 0 where
  pub some_from : 1 ≤ t.from
  pub from : t.from ≤ count
  pub some_to : 1 ≤ t.to
  pub to : t.to ≤ count
  pub some_share : 1 ≤ t.share
  pub share : t.share ≤ 1000
  pub some_supply : 1 ≤ t.supply
  pub supply : t.supply ≤ 1000

-- how a turn fits to the links and to the turns before it
pub record TurnFits (links : List Link) (before : List Turn) (t : Turn) : Type 0 where
  pub meets : (numbered links t.to).tail ≡ (numbered links t.from).head
  pub once : AllByRecursion (λ u. u.from ≡ t.from → u.to ≢ t.to) before
  pub shared : sum_by (share_from t.from) before + t.share ≤ 1000
  pub supplied : (phase : ℕ) → phase < 8 → sum_by (supply_into links phase t.to) before + supply_into links phase t.to t ≤ 1000

-- the words from place `at` to `to` are those of the turn t
pub record TurnSaid (bs : List ℕ) (links : List Link) (count : ℕ) (before : List Turn) (at : ℕ) (t : Turn) (to : ℕ) : Type 0 where
  pub good : TurnOf count t
  pub fits : TurnFits links before t
  pub words : Spelled bs at (turn_text t) to
