-- Numbers, section words and names: read exactly where they stand.
use Rattle.std.proofs.Common.{◌≡◌, ℕ, ◌+◌, ◌-◌, ◌^◌, ◌<◌, ◌≤◌, true, false, not, ◌||◌, eqb, ltb, leb, List, length, get_or, Ok, decimal, sym, refl, ap, ◌∙◌, subst, ⊎_elim, arith}
use Rattle.std.specs.Str.Parse.{digits_value}
use Rattle.std.specs.Str.{bytes_eq}
use Rattle.std.proofs.lemmas.Fmt.{decimal-digits_value, digits_decimal, digits_value-decimal, decimal_nonempty, length-decimal-le, first_decimal}
use Rattle.std.proofs.lemmas.Slice.Eq.{bytes_eq-Decides}
use Rattle.std.proofs.lemmas.Str.Parse.{digits_value_short}
use Rattle.std.proofs.lemmas.Bool.{cond-true, cond-false, cases_Bool, and_parts, and_from, or_left, or_right, or_parts, or_from, or_cases, not_from_false, not-true, leb-true, le-leb, ltb-false, le-ltb, eqb-false, ne_eqb, cases_lt}
use Rattle.refusal.specs.Questions.{Told, no, then}
use Rattle.refusal.proofs.Turning.{then_parts, ok_same, then_ok}
use Rattle.words.specs.declared.reading.Reading.{Reading}
use Rattle.words.specs.Words.{short_sheet, numeral, number, name, part, word_at}
use Rattle.words.specs.Numbers.{as_number, number_at, as_section, section_at, short_name, as_name, name_at}
use Rattle.words.specs.Spelling.{Next}
use Rattle.words.specs.Tables.{tabled}
use Rattle.words.proofs.Values.{own}
use Rattle.words.proofs.Spelled.{next_read, word_stands}

-- a sheet that is not refused for its length is short, and a short one is not
pub short_stands : (bs : List ℕ) {u : Unit {0}} → short_sheet bs ≡ Ok u → length bs ≤ 65535
short_stands bs h =
    ⊎_elim
    (λ long. absurd (let z : ◌≡◌ {A = ℕ} 0 1 = cc (h, cond-true (ltb 65535 (length bs)) (no 1 0) (Ok (tt {0})) long) in omega arith))
    (λ short. ltb-false 65535 (length bs) short)
    (cases_Bool (ltb 65535 (length bs)))

pub short_read : (bs : List ℕ) → length bs ≤ 65535 → short_sheet bs ≡ Ok tt
short_read bs h = cond-false _ _ _ (le-ltb 65535 (length bs) h)

pub numeral_decimal : (v : ℕ) → v < 10 ^ 9 → numeral (decimal v) ≡ true
numeral_decimal v h =
    let some = decimal_nonempty v (omega arith) in
    let short = length-decimal-le 9 v (omega arith) h (omega arith) in
    and_from _ _ (digits_decimal own v (omega arith))
    (and_from _ _ (le-leb 1 _ some)
    (and_from _ _ (le-leb _ 9 short)
    (⊎_elim
    (λ pos. or_right _ _ (not_from_false _ (ne_eqb (get_or (decimal v) 0 0) 48 (λ e. let f = first_decimal v pos (omega arith) in omega arith))))
    (λ zero. or_left _ _ (le-leb _ 1 (length-decimal-le 1 v (omega arith) (omega arith) (omega arith))))
    (cases_lt 0 v))))

pub decimal_numeral : (text : List ℕ) → numeral text ≡ true → (decimal (digits_value 10 text) ≡ text) × (digits_value 10 text < 10 ^ 9)
decimal_numeral text h =
    let p = and_parts _ _ h in
    let q = and_parts _ _ p.1 in
    let r = and_parts _ _ q.1 in
    let some : 1 ≤ length text = leb-true 1 _ q.0 in
    let short : length text ≤ 9 = leb-true _ 9 r.0 in
    let bound : digits_value 10 text < 10 ^ 9 = digits_value_short own text 9 p.0 short in (
      decimal-digits_value own text p.0 some
          (λ z. ⊎_elim (λ one. let o : length text ≤ 1 = leb-true (length text) 1 one in omega arith) (λ n. absurd (eqb-false _ 48 (not-true _ n) z)) (or_cases (leb (length text) 1) (not (eqb (get_or text 0 0) 48)) r.1))
          (omega arith),
      bound,
    )

-- a number that is read stands there, and is in range
pub record Stands (bs : List ℕ) (at low high : ℕ) (n : Reading ℕ) : Type 0 where
  pub next : Next bs at (decimal n.value) n.end
  pub above : low ≤ n.value
  pub below : n.value ≤ high
  pub small : n.value < 10 ^ 9

pub number_stands : (bs : List ℕ) (at low high : ℕ) (n : Reading ℕ) → number_at bs at low high ≡ Ok n → Stands bs at low high n
number_stands bs at low high n h =
    let parts = then_parts (word_at bs at) (as_number low high) n h in
    let w = word_stands bs at parts.0 parts.1 in
    let text : List ℕ = w.0 in
    let to : ℕ = w.1 in
    let p : ℕ = to - length text in
    let v : ℕ = digits_value 10 text in
    let out_of : Told (Reading ℕ) = no 6 p in
    let found : Reading ℕ = record { value = v; place = p; end = p + length text } in
    let got : as_number low high (part p text) ≡ Ok n = ap (as_number low high) (sym w.3) ∙ parts.2 in
    ⊎_elim
    (λ num.
    let d = decimal_numeral text num in
    let made : as_number low high (number p text) ≡ Ok n = ap (as_number low high) (sym (cond-true (numeral text) (number p text) (name p text) num)) ∙ got in
    ⊎_elim
    (λ out. absurd (let y : ◌≡◌ {A = ℕ} 0 1 = cc (made, cond-true (ltb v low || ltb high v) out_of (Ok found) out) in omega arith))
    (λ fits.
    let is : found ≡ n = ok_same (sym (cond-false (ltb v low || ltb high v) out_of (Ok found) fits) ∙ made) in
    let ins = or_parts _ _ fits in
    let low-is = ltb-false v low ins.0 in
    let high_is = ltb-false high v ins.1 in
    let back : p + length text ≡ to = omega (arith, w.2.ends) in
    let nx : Next bs at (decimal v) (p + length text) = subst (λ t. Next bs at t (p + length text)) (sym d.0) (subst (Next bs at text) (sym back) w.2) in
    subst (Stands bs at low high) is (record { next = nx; above = low-is; below = high_is; small = d.1 }))
    (cases_Bool (ltb v low || ltb high v)))
    (λ num. absurd (let y : ◌≡◌ {A = ℕ} 0 1 = cc (got, ap (as_number low high) (cond-false (numeral text) (number p text) (name p text) num)) in omega arith))
    (cases_Bool (numeral text))

-- a number that stands there and is in range is read
pub number_read : (bs : List ℕ) (at low high v to : ℕ) → Next bs at (decimal v) to → low ≤ v → v ≤ high → v < 10 ^ 9 → number_at bs at low high ≡ Ok (record { value = v; place = to - length (decimal v); end = to })
number_read bs at low high v to n l h s =
    let text : List ℕ = decimal v in
    let p : ℕ = to - length text in
    let is : digits_value 10 text ≡ v = digits_value-decimal own v (omega arith) in
    let back : p + length text ≡ to = omega (arith, n.ends) in
    ap (λ r. then r (as_number low high)) (next_read bs at text to n)
    ∙ ap (as_number low high) (cond-true _ _ _ (numeral_decimal v s))
    ∙ cond-false _ _ _ (or_from _ _ (le-ltb _ low (omega (arith, is))) (le-ltb high _ (omega (arith, is))))
    ∙ ap (λ u. Ok (record { value = u; place = p; end = p + length text })) is
    ∙ ap (λ e. Ok (record { value = v; place = p; end = e })) back

-- a number that is due, and what was made of it
pub due : {B : Type 0} (bs : List ℕ) (at low high : ℕ) (f : Reading ℕ → Told B) (y : B) → then (number_at bs at low high) f ≡ Ok y → (n : Reading ℕ) × Stands bs at low high n × (f n ≡ Ok y)
due bs at low high f y h = let p = then_parts (number_at bs at low high) f y h in (p.0, number_stands bs at low high p.0 p.1, p.2)

-- a number that stands there goes on to what is made of it
pub found : {B : Type 0} (bs : List ℕ) (at low high v to : ℕ) (f : Reading ℕ → Told B) → Next bs at (decimal v) to → low ≤ v → v ≤ high → v < 10 ^ 9 → then (number_at bs at low high) f ≡ f (record { value = v; place = to - length (decimal v); end = to })
found bs at low high v to f n l h s = then_ok f (number_read bs at low high v to n l h s)

-- a section word is read exactly where it stands
pub section_stands : (bs : List ℕ) (at : ℕ) (due : List ℕ) (e : ℕ) → section_at bs at due ≡ Ok e → Next bs at due e
section_stands bs at due e h =
    let parts = then_parts (word_at bs at) (as_section due) e h in
    let w = word_stands bs at parts.0 parts.1 in
    let text : List ℕ = w.0 in
    let to : ℕ = w.1 in
    let p : ℕ = to - length text in
    let got : as_section due (part p text) ≡ Ok e = ap (as_section due) (sym w.3) ∙ parts.2 in
    ⊎_elim
    (λ num. absurd (let y : ◌≡◌ {A = ℕ} 0 1 = cc (got, ap (as_section due) (cond-true (numeral text) (number p text) (name p text) num)) in omega arith))
    (λ num.
    let made : as_section due (name p text) ≡ Ok e = ap (as_section due) (sym (cond-false (numeral text) (number p text) (name p text) num)) ∙ got in
    ⊎_elim
    (λ yes-same.
    let is : p + length text ≡ e = ok_same (sym (cond-true (bytes_eq text due) _ (no 4 p) yes-same) ∙ made) in
    let back : to ≡ e = omega (arith, w.2.ends) in
    subst (λ t. Next bs at t e) ((bytes_eq-Decides text due).0 yes-same) (subst (Next bs at text) back w.2))
    (λ other. absurd (let y : ◌≡◌ {A = ℕ} 0 1 = cc (made, cond-false (bytes_eq text due) (Ok (p + length text)) (no 4 p) other) in omega arith))
    (cases_Bool (bytes_eq text due)))
    (cases_Bool (numeral text))

pub section_read : (bs : List ℕ) (at : ℕ) (due : List ℕ) (e : ℕ) → numeral due ≡ false → Next bs at due e → section_at bs at due ≡ Ok e
section_read bs at due e num n =
    let back : e - length due + length due ≡ e = omega (arith, n.ends) in
    ap (λ r. then r (as_section due)) (next_read bs at due e n)
    ∙ ap (as_section due) (cond-false _ _ _ num)
    ∙ cond-true _ _ _ ((bytes_eq-Decides due due).1 refl)
    ∙ ap Ok back

as_name_part : (p : ℕ) (text : List ℕ) → as_name (part p text) ≡ short_name p text
as_name_part p text = ⊎_elim (λ e. ap as_name (cond-true (numeral text) (number p text) (name p text) e)) (λ e. ap as_name (cond-false (numeral text) (number p text) (name p text) e)) (cases_Bool (numeral text))

-- a name that is read stands there
pub record NameSaid (bs : List ℕ) (at : ℕ) (n : Reading (List ℕ)) : Type 0 where
  pub text : List ℕ
  pub short : length text ≤ 8
  pub letters : n.value ≡ tabled 8 text
  pub next : Next bs at text n.end

pub name_stands : (bs : List ℕ) (at : ℕ) (n : Reading (List ℕ)) → name_at bs at ≡ Ok n → NameSaid bs at n
name_stands bs at n h =
    let parts = then_parts (word_at bs at) as_name n h in
    let w = word_stands bs at parts.0 parts.1 in
    let text : List ℕ = w.0 in
    let to : ℕ = w.1 in
    let p : ℕ = to - length text in
    let long : Told (Reading (List ℕ)) = no 6 p in
    let made : Reading (List ℕ) = record { value = tabled 8 text; place = p; end = p + length text } in
    let got : short_name p text ≡ Ok n = sym (as_name_part p text) ∙ ap as_name (sym w.3) ∙ parts.2 in
    ⊎_elim
    (λ z. absurd (let y : ◌≡◌ {A = ℕ} 0 1 = cc (got, cond-true (ltb 8 (length text)) long (Ok made) z) in omega arith))
    (λ z.
    let is : made ≡ n = ok_same (sym (cond-false (ltb 8 (length text)) long (Ok made) z) ∙ got) in
    let back : to ≡ p + length text = omega (arith, w.2.ends) in
    subst (NameSaid bs at) is (record { text = text; short = ltb-false 8 (length text) z; letters = refl; next = subst (Next bs at text) back w.2 }))
    (cases_Bool (ltb 8 (length text)))

pub name_read : (bs : List ℕ) (at : ℕ) (text : List ℕ) (to : ℕ) → length text ≤ 8 → Next bs at text to → name_at bs at ≡ Ok (record { value = tabled 8 text; place = to - length text; end = to })
name_read bs at text to s n =
    let back : to - length text + length text ≡ to = omega (arith, n.ends) in
    then_ok as_name (next_read bs at text to n) ∙ as_name_part (to - length text) text ∙ cond-false _ _ _ (le-ltb 8 (length text) s) ∙ ap (λ e. Ok (record { value = tabled 8 text; place = to - length text; end = e })) back
