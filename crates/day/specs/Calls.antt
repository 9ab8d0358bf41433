-- The calls of a day, word by word.
use Rattle.std.specs.Prelude.{ℕ, ◌+◌, cond, List, length, drop, Ok, codes}
use Rattle.std.specs.Str.{bytes_eq}
use Rattle.refusal.specs.Questions.{Told, no, then}
use Rattle.model.specs.Model.{Meaning}
use Rattle.words.specs.Words.{Part, number, name, word_at}
use Rattle.words.specs.Numbers.{number_at}
use Rattle.words.specs.declared.recorded.Recorded.{Recorded}
use Rattle.records.specs.Sections.{Reader}
use Rattle.plan_sheet.specs.Plans.{plan_sheet}
use Rattle.day.specs.declared.call.DayCall.{DayCall}
use Rattle.day.specs.declared.call.DayCall.TheVariants.{Shelve, Take, Advance, Change, Give}

-- the number of a shelf: 0 to 255
abbrev pub shelf_at : List ℕ → ℕ → Told (Recorded ℕ)
shelf_at bs at = then (number_at bs at 0 255) (λ n. Ok (record { item = n.value; end = n.end }))

-- a shelve: its number, and a plan sheet of its own from there on
abbrev pub shelve_at : Meaning → List ℕ → ℕ → Told (Recorded DayCall)
shelve_at m bs at =
    then (shelf_at bs at) (λ n.
    then (plan_sheet m (drop n.end bs)) (λ p.
    Ok (record { item = Shelve n.item n.end; end = n.end + p.end })))

-- the call that a word at a place begins, and what follows the word from its end on; question 4 where it begins none
abbrev pub call_of : Meaning → List ℕ → List ℕ → ℕ → ℕ → Told (Recorded DayCall)
call_of m bs word place end =
    cond (bytes_eq word (codes "shelve")) (shelve_at m bs end)
    (cond (bytes_eq word (codes "take")) (then (shelf_at bs end) (λ n. Ok (record { item = Take n.item; end = n.end })))
    (cond (bytes_eq word (codes "advance")) (Ok (record { item = Advance; end = end }))
    (cond (bytes_eq word (codes "change")) (then (shelf_at bs end) (λ n. Ok (record { item = Change n.item; end = n.end })))
    (cond (bytes_eq word (codes "give")) (Ok (record { item = Give; end = end })) (no 4 place)))))

-- a word as one that begins a call
abbrev pub as_call : Meaning → List ℕ → Part → Told (Recorded DayCall)
as_call m bs (number p text) = no 4 p
as_call m bs (name p text) = call_of m bs text p (p + length text)

-- a call: its word, and what follows it
abbrev pub call_at : Meaning → List ℕ → Reader DayCall
call_at m bs at before = then (word_at bs at) (as_call m bs)
