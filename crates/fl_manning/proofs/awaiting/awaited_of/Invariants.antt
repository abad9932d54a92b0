use Rattle.std.proofs.Common.{◌≡◌, take}
use Rattle.fl_manning.specs.Orders.{awaited_by}
use Rattle.fl_manning.proofs.awaiting.awaited_of.Given as goal

abbrev pub invariant-loop-index : goal.invariant-loop-index
invariant-loop-index l = l.orders.items ≡ awaited_by (take l.index l.owners) (take l.index l.bodies)
