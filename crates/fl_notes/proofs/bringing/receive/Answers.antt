use Rattle.fl_machine_model.specs.Alone.{BatchAlone}
use Rattle.fl_notes.proofs.BringLemmas.{takes_none, takes_some}
use Rattle.fl_notes.proofs.bringing.receive.Goals as goal

pub returns-in-Err-clause-takes : goal.returns-in-Err-clause-takes
returns-in-Err-clause-takes g c = BatchAlone.refused c.in-Err.ensures.receives

pub returns-then-count-eq0-clause-takes : goal.returns-then-count-eq0-clause-takes
returns-then-count-eq0-clause-takes g c = takes_none _ _ _ _ c.if-count-eq0.true c.in-Ok.ensures.receives

pub returns-clause-takes : goal.returns-clause-takes
returns-clause-takes g c = takes_some _ _ _ _ c.if-count-eq0.false c.in-Ok.ensures.receives
