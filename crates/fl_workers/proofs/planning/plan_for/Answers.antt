use Rattle.std.proofs.Common.{◌∙◌, map, ap}
use Rattle.fl_manning.specs.Orders.{asked_by}
use Rattle.fl_workers.proofs.Planned.{bodies_count}
use Rattle.fl_workers.proofs.planning.plan_for.Goals as goal

pub awaited_of-requires : goal.awaited_of-requires
awaited_of-requires c =
    bodies_count c.args.workers c.args.procs c.args.items.items c.deref-2.result.now
    c.deref-3.result.now (c.deref-2.ensures.value ∙ c.in_ok-queues.ensures.owners)
    (c.deref-3.ensures.value ∙ (c.in_ok-bodies.ensures ∙ ap (map asked_by) c.deref.ensures.value))
