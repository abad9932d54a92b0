use Rattle.std.proofs.Common.{◌∙◌}
use Rattle.fl_cluster.proofs.Naming.{some_set, placed_then_set, placed_then_back, placed_then_left}
use Rattle.fl_cluster.proofs.session.settle.Goals as goal

pub take_back-requires : goal.take_back-requires
take_back-requires c = some_set _ _ c.requires

pub returns-in-Some : goal.returns-in-Some
returns-in-Some c = λ before placed. rw c.in-Some.is (c.set.ensures ∙ placed_then_set c.in-Some.target placed)

pub returns-then-is_new : goal.returns-then-is_new
returns-then-is_new c = λ before placed. rw c.in-None.is (placed_then_back _ c.if-is_new.true placed c.take_back.ensures)

pub returns-else-is_new : goal.returns-else-is_new
returns-else-is_new c = λ before placed. rw c.in-None.is (placed_then_left c.if-is_new.false placed)
