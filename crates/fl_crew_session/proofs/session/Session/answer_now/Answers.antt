use Rattle.fl_crew_turns.specs.Turn.{AnswersNow}
use Rattle.fl_crew_session.proofs.session.Session.answer_now.Goals as goal

pub returns-in-None : goal.returns-in-None
returns-in-None g c = rw (c.in-None.is, c.starved.ensures) AnswersNow.unread

pub returns-in-Some-Quiet : goal.returns-in-Some-Quiet
returns-in-Some-Quiet g c = rw (c.in-Some-Quiet.is, c.in-Some-Quiet.field-0-is) AnswersNow.quiet

pub returns-in-Some-Bad : goal.returns-in-Some-Bad
returns-in-Some-Bad g c = rw (c.in-Some-Bad.is, c.in-Some-Bad.field-0-is, c.bad_line.ensures) AnswersNow.bad
