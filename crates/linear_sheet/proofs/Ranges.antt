-- What is read keeps the ranges of a linear model.
use Rattle.std.proofs.Common.{◌≡◌, ℕ, ◌≤◌, List, length, Ok, codes, mul-le-mul, arith}
use Rattle.records.specs.Sections.{Items}
use Rattle.records.proofs.Exactness.{kept}
use Rattle.linear.specs.declared.place.Place.{Place}
use Rattle.linear.specs.Sound.{no_place, PlaceOk, PlacesOk, EntriesOk}
use Rattle.linear_sheet.specs.Places.{place_at, entry_at, entry_count, PlaceSaid, EntrySaid}
use Rattle.linear_sheet.specs.Linear.{places_section, entries_section}
use Rattle.linear_sheet.proofs.PlaceExact.{place_exact, entry_exact}

pub places_ok : (bs : List ℕ) (at : ℕ) {t : Items Place} → Ok t ≡ places_section bs at → (1 ≤ length t.items) × (length t.items ≤ 16) × PlacesOk t.items
places_ok bs at {t} h =
    let s = kept (place_at bs) (PlaceSaid bs) (place_exact bs) PlaceOk no_place (λ _ _ _ _ w. (w.some_top, w.top, w.load)) bs (codes "places") at 1 16 t h in
    (s.enough, s.few, s.each)

pub entries_ok : (bs : List ℕ) (modes places at : ℕ) {t : Items ℕ} → Ok t ≡ entries_section bs modes places at → (length t.items ≡ entry_count modes places) × EntriesOk t.items
entries_ok bs modes places at {t} h =
    let n : ℕ = entry_count modes places in
    let s = kept (entry_at bs) (EntrySaid bs) (entry_exact bs) (λ e. e ≤ 10000) 0 (λ _ _ _ _ w. w.small) bs (codes "entries") at n n t h in
    (omega (arith, s.enough, s.few), s.each)

-- 8 modes of 16 lines of 16 entries at most
pub few_entries : (modes places : ℕ) → modes ≤ 8 → places ≤ 16 → entry_count modes places ≤ 2048
few_entries modes places m p = mul-le-mul (mul-le-mul m p) p
