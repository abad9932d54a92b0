use Rattle.std.proofs.Common.{◌≡◌, map, take}
use Rattle.fl_manning.specs.Orders.{asked_by}
use Rattle.fl_manning.proofs.awaiting.bodies_of.Given as goal

abbrev pub invariant-loop-item : goal.invariant-loop-item
invariant-loop-item l = l.bodies.items ≡ map asked_by (take l.item-index l.items)
