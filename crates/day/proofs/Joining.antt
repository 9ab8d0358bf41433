-- Text that is written piece by piece.
use Rattle.std.proofs.Common.{◌≡◌, ℕ, suc, ◌+◌, ◌-◌, ◌<◌, ◌≤◌, List, ◌++◌, IfOk, codes, decimal, Result, sym, ap, ◌∙◌, append_assoc, append-nil, arith}
use Rattle.std.proofs.lemmas.Result.{IfOk-weaker}
use Rattle.model.specs.State.{told}
use Rattle.day.specs.Text.{numbers_from}

-- one number more of an envelope
pub numbers_step : (xs : List ℕ) (n k v : ℕ) (out next all : List ℕ) → k < n → v ≡ told xs (k + 1) → next ≡ out ++ (codes " " ++ decimal v) → out ++ numbers_from xs (n - k) k ≡ all → next ++ numbers_from xs (n - (k + 1)) (k + 1) ≡ all
numbers_step xs n k v out next all l is e inv =
    let more : n - k ≡ suc (n - (k + 1)) = omega arith in
    let left : List ℕ = numbers_from xs (n - (k + 1)) (k + 1) in
    ap (λ o. o ++ left) (e ∙ ap (λ u. out ++ (codes " " ++ decimal u)) is)
    ∙ append_assoc out (codes " " ++ decimal (told xs (k + 1))) left
    ∙ sym (ap (λ j. out ++ numbers_from xs j k) more)
    ∙ inv

-- after the last of them
pub numbers_end : (xs : List ℕ) (n k : ℕ) (out all : List ℕ) → n ≤ k → out ++ numbers_from xs (n - k) k ≡ all → out ≡ all
numbers_end xs n k out all l inv =
    let none : n - k ≡ 0 = omega arith in
    sym (append-nil out) ∙ sym (ap (λ j. out ++ numbers_from xs j k) none) ∙ inv

-- three pieces, one after the other
pub three_pieces : {X E : Type 0} (r : Result X E) (o h n t q s u : List ℕ) → q ≡ o ++ h → s ≡ q ++ n → IfOk r (λ _. u ≡ s ++ t) → IfOk r (λ _. u ≡ o ++ (h ++ (n ++ t)))
three_pieces r o h n t q s u first second third =
    IfOk-weaker r (λ _. u ≡ s ++ t) (λ _. u ≡ o ++ (h ++ (n ++ t)))
    (λ _ e. e ∙ ap (λ x. x ++ t) (second ∙ ap (λ x. x ++ n) first) ∙ append_assoc (o ++ h) n t ∙ append_assoc o h (n ++ t)) third
