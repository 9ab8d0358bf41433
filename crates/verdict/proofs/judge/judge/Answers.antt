use Rattle.std.proofs.Common.{◌≡◌, true, false, sym, ◌∙◌, inl, inr, ⊎_elim}
use Rattle.std.proofs.lemmas.Result.{IfOk-weaker}
use Rattle.std.proofs.lemmas.Bool.{cond-true, cond-false, both_ways}
use Rattle.linear_sheet.specs.Linear.{begins_linear}
use Rattle.verdict.specs.Judged.{linear_verdict, network_verdict, verdict_on, LinearSaid, NetworkSaid, ModelSaid, Right}
use Rattle.verdict.proofs.Rightly.{right_alike}
use Rattle.verdict.proofs.Models.{network_begins, linear_begins}
use Rattle.verdict.proofs.judge.judge.Goals as goal

pub returns-then-is_linear : goal.returns-then-is_linear
returns-then-is_linear c =
    let bs = c.args.input.now in
    let r = c.judge_model.result in
    let first : begins_linear bs ≡ true = sym c.if-is_linear.ensures in
    record {
      is = IfOk-weaker r (λ v. v ≡ linear_verdict bs) (λ v. v ≡ verdict_on bs) (λ v e. e ∙ sym (cond-true (begins_linear bs) (linear_verdict bs) (network_verdict bs) first)) c.judge_model.ensures.is;
      right =
          IfOk-weaker r (Right (LinearSaid bs) bs) (Right (ModelSaid bs) bs)
          (right_alike (LinearSaid bs) (ModelSaid bs) (λ d s. inl s) (λ d s. ⊎_elim (λ l. l) (λ n. absurd (both_ways (begins_linear bs) (network_begins bs d n) first)) s) bs)
          c.judge_model.ensures.right;
    }

pub returns-else-is_linear : goal.returns-else-is_linear
returns-else-is_linear c =
    let bs = c.args.input.now in
    let r = c.judge_model-else-is_linear.result in
    let first : begins_linear bs ≡ false = sym c.if-is_linear.ensures in
    record {
      is = IfOk-weaker r (λ v. v ≡ network_verdict bs) (λ v. v ≡ verdict_on bs) (λ v e. e ∙ sym (cond-false (begins_linear bs) (linear_verdict bs) (network_verdict bs) first)) c.judge_model-else-is_linear.ensures.is;
      right =
          IfOk-weaker r (Right (NetworkSaid bs) bs) (Right (ModelSaid bs) bs)
          (right_alike (NetworkSaid bs) (ModelSaid bs) (λ d s. inr s) (λ d s. ⊎_elim (λ l. absurd (both_ways (begins_linear bs) first (linear_begins bs d l))) (λ n. n) s) bs)
          c.judge_model-else-is_linear.ensures.right;
    }
