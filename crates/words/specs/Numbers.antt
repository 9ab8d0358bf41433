-- Numbers within a range, section words and names.
use Rattle.std.specs.Prelude.{ℕ, ◌+◌, cond, ◌||◌, List, length, Ok, nat_lt}
use Rattle.std.specs.Str.Parse.{digits_value}
use Rattle.std.specs.Str.{bytes_eq}
use Rattle.refusal.specs.Questions.{Told, no, then}
use Rattle.words.specs.declared.reading.Reading.{Reading}
use Rattle.words.specs.Words.{Part, number, name, word_at}
use Rattle.words.specs.Tables.{tabled}

-- question 5: is the word a number? question 6: is it from low to high?
abbrev pub as_number : ℕ → ℕ → Part → Told (Reading ℕ)
as_number low high (number p text) =
    cond (nat_lt (digits_value 10 text) low || nat_lt high (digits_value 10 text)) (no 6 p) (Ok (record { value = digits_value 10 text; place = p; end = p + length text }))
as_number low high (name p text) = no 5 p

-- the next word as a number from low to high
abbrev pub number_at : List ℕ → ℕ → ℕ → ℕ → Told (Reading ℕ)
number_at bs at low high = then (word_at bs at) (as_number low high)

-- question 4: is it the section word that is due? The answer is where it ends.
abbrev pub as_section : List ℕ → Part → Told ℕ
as_section due (number p text) = no 4 p
as_section due (name p text) = cond (bytes_eq text due) (Ok (p + length text)) (no 4 p)

-- the next word as a section word
abbrev pub section_at : List ℕ → ℕ → List ℕ → Told ℕ
section_at bs at due = then (word_at bs at) (as_section due)

-- question 6: has the name at most 8 bytes?
abbrev pub short_name : ℕ → List ℕ → Told (Reading (List ℕ))
short_name p text = cond (nat_lt 8 (length text)) (no 6 p) (Ok (record { value = tabled 8 text; place = p; end = p + length text }))

-- any word will do as a name
abbrev pub as_name : Part → Told (Reading (List ℕ))
as_name (number p text) = short_name p text
as_name (name p text) = short_name p text

-- the next word as a name
abbrev pub name_at : List ℕ → ℕ → Told (Reading (List ℕ))
name_at bs at = then (word_at bs at) as_name
