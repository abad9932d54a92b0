use Rattle.std.proofs.Common.{◌≡◌, Some, false, rules}
use Rattle.fl_script.specs.declared.reading.Reading.TheVariants.{Means}
use Rattle.fl_crew_turns.specs.Turn.{CrewTurn, EndsBefore}
use Rattle.fl_crew_session.proofs.Turning.{goes_not, is_job}
use Rattle.fl_crew_session.proofs.session.Session.answer_line.Goals as goal
use Rattle.fl_crew_session.proofs.session.Session.answer_line.Goals.{in_default-via-in-Node+in_default, in_default-via-in_default}

pub returns-in_default : goal.returns-in_default
returns-in_default g c =
    let same : c.args.line ≡ c.in_default.line = elim c.in_default.branch [
      | in_default-via-in-Node+in_default w ↦ cc
      | in_default-via-in_default w ↦ cc
    ] in
    let none : is_job c.in_default.line ≡ false = search rules in
    rw same (λ bytes unnamed says.
    CrewTurn.ends_before (EndsBefore.other {heard = Some (Means c.in_default.line c.args.alias)} unnamed says
    (goes_not _ c.in_default.line c.args.alias none) c.end-replies.ensures.ends) c.answer_line_now-own.ensures)
