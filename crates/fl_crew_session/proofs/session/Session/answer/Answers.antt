use Rattle.fl_crew_session.proofs.Turning.{cuts_turn}
use Rattle.fl_crew_session.proofs.session.Session.answer.Goals as goal

pub returns-clause-err : goal.returns-clause-err
returns-clause-err g c =
    cuts_turn _ {rest = c.write.new.sink} _ _ _ _ _ _ c.write.result c.respond-told.ensures
    (rw (← c.self.view_is) c.write.ensures.puts)
