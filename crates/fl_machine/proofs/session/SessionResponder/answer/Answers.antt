use Rattle.std.proofs.Common.{◌≡◌, ◌∙◌, ap, arith, nat_eq, refl, rules, sym}
use Rattle.fl_machine_lines.specs.declared.line.MachineLine.TheVariants.{Bad}
use Rattle.fl_sink.specs.laws.Passing.{on_err_always}
use Rattle.fl_machine_turns.specs.Over.{SessionOver}
use Rattle.fl_machine_turns.specs.Settings.{settings_of}
use Rattle.fl_machine.proofs.BadLines.{bad_cuts, bad_passes}
use Rattle.fl_machine.proofs.Texts.{pids_are, text_runs}
use Rattle.fl_machine.proofs.Hearing.{is_read}
use Rattle.fl_machine.proofs.Turning.{cuts_answer, not_true, passes_answer, same_desk}
use Rattle.fl_machine.proofs.session.SessionResponder.answer.Goals as goal

pub write_response-requires-clause-running : goal.write_response-requires-clause-running
write_response-requires-clause-running g c =
    let says = is_read _ _ _ (rw c.number.ensures.number at c.read_machine_line-read.ensures.ok) c.read_machine_line-read.ensures.err in
    text_runs (c.respond_to_read-response.ensures c.args.line.now says).shows

pub write_response-requires-clause-pids : goal.write_response-requires-clause-pids
write_response-requires-clause-pids g c =
    let says = is_read _ _ _ (rw c.number.ensures.number at c.read_machine_line-read.ensures.ok) c.read_machine_line-read.ensures.err in
    pids_are (c.respond_to_read-response.ensures c.args.line.now says).shows

pub invariant_of-self : goal.invariant_of-self
invariant_of-self g c =
    let says = is_read _ _ _ (rw c.number.ensures.number at c.read_machine_line-read.ensures.ok) c.read_machine_line-read.ensures.err in
    same_desk (c.respond_to_read-response.ensures c.args.line.now says).same c.self.invariant

pub invariant_of-self-2 : goal.invariant_of-self-2
invariant_of-self-2 g c =
    let says = is_read _ _ _ (rw c.number.ensures.number at c.read_machine_line-read.ensures.ok) c.read_machine_line-read.ensures.err in
    same_desk (c.respond_to_read-response.ensures c.args.line.now says).same c.self.invariant

pub returns-in_err-write_response-clause-err : goal.returns-in_err-write_response-clause-err
returns-in_err-write_response-clause-err g c =
    let x = c.self.inside in
    let heard = c.respond_to_read-response in
    let says = is_read _ _ _ (rw c.number.ensures.number at c.read_machine_line-read.ensures.ok) c.read_machine_line-read.ensures.err in
    let responds = heard.ensures c.args.line.now says in
    let h = rw c.deref.ensures.value at responds in
    rw (← c.self.view_is) (on_err_always _ (cuts_answer g.K.Keeper.custody
    (record {
      settings = settings_of x.node.node.number x.keys.items x.guards;
      node = x.node;
      admitted = x.admitted;
      over = x.over;
    })
    (record {
      settings = settings_of heard.new.node.node.number x.keys.items x.guards;
      node = heard.new.node;
      admitted = c.saturating_add-self-inside.result;
      over = nat_eq c.status-status.result 3;
    })
    c.args.line.now heard.result.0 heard.result.1
    (record {
      settings = ap (λ n. settings_of n x.keys.items x.guards) responds.same.number;
      live = not_true x.over
          (λ e. c.requires (ap (λ (s : SessionOver g.row.K.Denot). s.over) (sym c.self.view_is)
          ∙ e));
      fits = omega (arith, c.self.ranges);
      counted = c.saturating_add-self-inside.ensures;
      over = ap (λ s. nat_eq s 3) c.status-status.ensures;
    }) h c.args.number
    (c.in_err-write_response.ensures.puts x.keys.items h.answer h.shows).is))

pub returns-clause-ok : goal.returns-clause-ok
returns-clause-ok g c =
    let x = c.self.inside in
    let heard = c.respond_to_read-response in
    let says = is_read _ _ _ (rw c.number.ensures.number at c.read_machine_line-read.ensures.ok) c.read_machine_line-read.ensures.err in
    let responds = heard.ensures c.args.line.now says in
    let h = rw c.deref.ensures.value at responds in
    rw (← c.self.view_is) (passes_answer g.K.Keeper.custody
    (record {
      settings = settings_of x.node.node.number x.keys.items x.guards;
      node = x.node;
      admitted = x.admitted;
      over = x.over;
    })
    (record {
      settings = settings_of heard.new.node.node.number x.keys.items x.guards;
      node = heard.new.node;
      admitted = c.saturating_add-self-inside.result;
      over = nat_eq c.status-status.result 3;
    })
    c.args.line.now heard.result.0 heard.result.1
    (record {
      settings = ap (λ n. settings_of n x.keys.items x.guards) responds.same.number;
      live = not_true x.over
          (λ e. c.requires (ap (λ (s : SessionOver g.row.K.Denot). s.over) (sym c.self.view_is)
          ∙ e));
      fits = omega (arith, c.self.ranges);
      counted = c.saturating_add-self-inside.ensures;
      over = ap (λ s. nat_eq s 3) c.status-status.ensures;
    }) h c.args.number
    c.status-status.result c.status-status.ensures
    (c.in_ok-write_response.ensures.puts x.keys.items h.answer h.shows).is)

-- ---- a line that is none of the machine

pub returns-in_err-write_count-clause-err : goal.returns-in_err-write_count-clause-err
returns-in_err-write_count-clause-err g c =
    let x = c.self.inside in
    let live = not_true x.over (λ e. c.requires (ap (λ (s : SessionOver g.row.K.Denot). s.over)
    (sym c.self.view_is) ∙ e)) in
    let bad : c.in-Ok-Bad.field-0 ≡ Bad = search rules in
    let says = rw (c.number.ensures.number, c.in-Ok-Bad.is, bad) at c.read_machine_line-read.ensures.ok in
    rw (← c.self.view_is) (on_err_always _ (bad_cuts g.K.Keeper.custody x.node x.keys.items x.guards
    x.admitted x.over live (omega (arith, c.self.ranges)) c.args.line.now says c.args.number
    c.in_err-write_count.ensures.puts.is))

pub returns-in-Ok-Bad-clause-ok : goal.returns-in-Ok-Bad-clause-ok
returns-in-Ok-Bad-clause-ok g c =
    let x = c.self.inside in
    let live = not_true x.over (λ e. c.requires (ap (λ (s : SessionOver g.row.K.Denot). s.over)
    (sym c.self.view_is) ∙ e)) in
    let bad : c.in-Ok-Bad.field-0 ≡ Bad = search rules in
    let says = rw (c.number.ensures.number, c.in-Ok-Bad.is, bad) at c.read_machine_line-read.ensures.ok in
    rw (← c.self.view_is) (bad_passes g.K.Keeper.custody x.node x.keys.items x.guards
    x.admitted x.over live (omega (arith, c.self.ranges)) c.args.line.now says c.args.number
    c.in_ok-write_count.ensures.puts.is)
