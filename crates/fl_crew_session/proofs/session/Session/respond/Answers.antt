use Rattle.std.proofs.Common.{◌∙◌, ◌≡◌, false, rules, sym, true≢false}
use Rattle.fl_crew_turns.specs.Naming.{NamesHeld}
use Rattle.fl_crew_turns.specs.Turn.{CrewTurn, EndsBefore}
use Rattle.fl_crew_session.proofs.Turning.{goes_heard, is_line}
use Rattle.fl_crew_session.proofs.session.Session.respond.Goals as goal
use Rattle.fl_crew_session.proofs.session.Session.respond.Goals.{in_default-via-in-Some+in_default, in_default-via-in_default}

pub returns-then-is_named_in : goal.returns-then-is_named_in
returns-then-is_named_in g c =
    let named : NamesHeld c.args.self.now.held c.args.line.now = rw (← c.self.view_is) (c.is_named_in.ensures.0 c.if-is_named_in.true) in
    CrewTurn.ends_before (EndsBefore.named named c.end-replies.ensures.ends c.hear-heard.ensures.heard)
    (rw c.hear-heard.ensures.same at c.answer_now-own.ensures)

pub returns-in_default : goal.returns-in_default
returns-in_default g c =
    let unnamed : ¬ NamesHeld c.args.self.now.held c.args.line.now = rw (← c.self.view_is)
    (λ named. true≢false (sym (c.is_named_in.ensures.1 named) ∙ c.if-is_named_in.false)) in
    let same : c.hear-heard-2.result ≡ c.in_default.heard = elim c.in_default.branch [
      | in_default-via-in-Some+in_default w ↦ cc
      | in_default-via-in_default w ↦ cc
    ] in
    let none : is_line c.in_default.heard ≡ false = search rules in
    CrewTurn.ends_before (EndsBefore.other unnamed (rw same at c.hear-heard-2.ensures.heard)
    (goes_heard _ c.in_default.heard none) (rw c.hear-heard-2.ensures.same at c.end-replies-in_default.ensures.ends))
    c.answer_now-own-in_default.ensures
