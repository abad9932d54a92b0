use Rattle.std.proofs.Common.{refl}
use Rattle.std.proofs.lemmas.Result.{err_from_is_err_and}
use Rattle.fl_system.specs.Arrives.{Arrives}
use Rattle.fl_node.proofs.Sounds.{counts_on}
use Rattle.fl_node.proofs.Working.{arrives_by, not_arrived_by, arrival_sends_nothing, arrival_orders_nothing, has_view}
use Rattle.fl_node.proofs.node.Node.arrive.Goals as goal
use Rattle.fl_node.proofs.node.Node.arrive.Goals.{in-Ok-Reply, in-Err}

pub returns-in_err-running-clause-arrives : goal.returns-in_err-running-clause-arrives
returns-in_err-running-clause-arrives g c =
    let p = err_from_is_err_and c.from_residual.result c.from_residual.ensures.1 in
    rw (p.1, p.2, ← c.self.view_is) (Arrives.stopped c.in_err-running.ensures.err)

pub invariant_of-self : goal.invariant_of-self
invariant_of-self g c = rw c.hand.ensures.same (counts_on c.self.inside.state _ _ refl c.hand.ensures.count c.self.invariant)

pub returns-clause-arrives : goal.returns-clause-arrives
returns-clause-arrives g c =
    let v = has_view _ 1 (rw (← c.self.view_is) at c.requires) in
    elim c.match-hand.branch [
      | in-Ok-Reply w ↦
          let does = rw w.in-Ok-Reply.field-0-is at w.in-Ok-Reply.ensures.does in
          rw (w.result-is, ← c.self.view_is, c.hand.ensures.same) (arrives_by _ _ _ c.in_ok-running.ensures.ok _ _ (does v.seen v.at))
      | in-Err w ↦ rw (w.result-is, ← c.self.view_is, c.hand.ensures.same) (not_arrived_by _ _ _ c.in_ok-running.ensures.ok _ _ (w.in-Err.ensures.does v.seen v.at))
    ]

pub unreachable-requires : goal.unreachable-requires
unreachable-requires g c =
    let v = has_view _ 1 (rw (← c.self.view_is) at c.requires) in
    let does = rw c.in-Ok-Out.field-0-is at c.in-Ok-Out.ensures.does in
    arrival_sends_nothing (does v.seen v.at).does

pub unreachable-requires-in-Ok-Order : goal.unreachable-requires-in-Ok-Order
unreachable-requires-in-Ok-Order g c =
    let v = has_view _ 1 (rw (← c.self.view_is) at c.requires) in
    let does = rw c.in-Ok-Order.field-0-is at c.in-Ok-Order.ensures.does in
    arrival_orders_nothing (does v.seen v.at).does
