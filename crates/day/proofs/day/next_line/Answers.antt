use Rattle.std.proofs.Common.{◌≡◌, true, is_ok, sym, ap, ◌∙◌}
use Rattle.day.specs.Running.{held, area_call}
use Rattle.day.proofs.Whole.{both_ok, where_ok, ran_runs, ran_model, ran_limits}
use Rattle.day.proofs.day.next_line.Goals as goal

pub returns : goal.returns
returns g c =
    let meaning = g.S.Model.meaning in
    let seen = g.S.Street.seen in
    let a = c.args.area.now in
    let h = held c.args.shift.hand in
    let call = c.args.call in
    let q = area_call c.args.sheet.now call h in
    let r = c.run_call-done.result in
    let b = c.run_call-done.new.area in
    let x = c.run_call-done.ensures.does in
    let line = c.write_line-line in
    let both = λ (e : is_ok c.and.result ≡ true). both_ok c.args.shift.written line.result (sym (ap is_ok c.and.ensures) ∙ e) in
    record {
      safe = c.run_call-done.ensures.safe;
      model = ran_model meaning seen q call a h r.done b (held r.hand) x;
      limits = ran_limits meaning seen q call a h r.done b (held r.hand) x;
      all = λ e. (both e).0;
      line = λ e. (r.done, ran_runs meaning seen q call a h r.done b (held r.hand) x, where_ok line.result _ line.ensures (both e).1);
    }
