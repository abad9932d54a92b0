use Rattle.std.proofs.Common.{◌∙◌, Some, sym, true≢false}
use Rattle.fl_script.specs.declared.reading.Reading.TheVariants.{Means}
use Rattle.fl_crew_turns.specs.Turn.{CrewTurn, EndsBefore}
use Rattle.fl_crew_session.specs.Parts.{line_of}
use Rattle.fl_crew_session.proofs.session.Session.take.Goals as goal

pub returns : goal.returns
returns g c = λ bytes unnamed says.
    CrewTurn.ends_before (EndsBefore.other {heard = Some (Means (line_of c.args.task) c.args.task.alias)} unnamed says
    (λ goes. true≢false (sym (c.goes_on_with.ensures.1 goes) ∙ c.if-goes_on_with.false)) c.end-replies.ensures.ends)
    c.begin-own.ensures
