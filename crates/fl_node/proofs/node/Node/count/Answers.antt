use Rattle.fl_node.specs.Checking.{Counts}
use Rattle.fl_node.proofs.node.Node.count.Goals as goal

pub returns-in-Ok : goal.returns-in-Ok
returns-in-Ok g c = rw c.len.ensures (Counts.new c.in-Ok.new c.in-Ok.ensures.can c.in-Ok.ensures.lacking)

pub returns-in-Err : goal.returns-in-Err
returns-in-Err g c = Counts.refused c.in-Err.ensures.err
