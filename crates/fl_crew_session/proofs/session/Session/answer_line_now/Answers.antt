use Rattle.std.proofs.Common.{◌≡◌, rules, true}
use Rattle.fl_calls.specs.Answer.{shown_alone}
use Rattle.fl_crew_turns.specs.Turn.{AnswersNow, is_other}
use Rattle.fl_crew_calls.specs.laws.Calling.{call_responds}
use Rattle.fl_crew_session.proofs.session.Session.answer_line_now.Goals as goal
use Rattle.fl_crew_session.proofs.session.Session.answer_line_now.Goals.{in_default-via-in-Node+in_default, in_default-via-in_default}

pub returns-in-Aliases : goal.returns-in-Aliases
returns-in-Aliases g c = rw c.in-Aliases.is AnswersNow.lists

pub returns-in_default : goal.returns-in_default
returns-in_default g c =
    let same : c.args.line ≡ c.in_default.line = elim c.in_default.branch [
      | in_default-via-in-Node+in_default w ↦ cc
      | in_default-via-in_default w ↦ cc
    ] in
    let other : is_other c.in_default.line ≡ true = search rules in
    let responds = call_responds g.M.K.Keeper.custody g.M.MakesKeepers.making
    c.self.inside.crews c.respond_to.new.crews c.in_default.line (shown_alone c.respond_to.result) c.respond_to.ensures in
    rw (← c.self.view_is, same) (AnswersNow.asks {line = c.in_default.line} other responds)
