use Rattle.fl_crews.proofs.run.converse.Goals as goal

pub hear_all-result-requires-clause-due : goal.hear_all-result-requires-clause-due
hear_all-result-requires-clause-due g c κs within = rw (c.new-session.ensures, c.new-crews.ensures) c.requires.due
