use Rattle.fl_closure.proofs.Giving.{mirrored_nothing}
use Rattle.fl_closure.proofs.closed.ClosedRows.new.Goals as goal

pub returns-clause-mirrored : goal.returns-clause-mirrored
returns-clause-mirrored c = mirrored_nothing _ c.new.ensures c.new-2.ensures
