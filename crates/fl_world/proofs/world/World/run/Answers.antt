use Rattle.std.proofs.Common.{◌∙◌, sym, ap, subst, length, arith}
use Rattle.std.proofs.lemmas.Iterator.Adapters.{YieldsList-from_vec}
use Rattle.std.proofs.lemmas.Iterator.Consumers.{YieldsList-end}
use Rattle.std.proofs.lemmas.List.{map-id}
use Rattle.fl_system.specs.Runs.{IsReached}
use Rattle.fl_world.specs.Reached.{InEach}
use Rattle.fl_world.proofs.Along.{run_lasts}
use Rattle.fl_world.proofs.Running.{none_yet, one_more, all_done}
use Rattle.fl_world.proofs.world.World.run.Goals as goal

pub loop-event-init : goal.loop-event-init
loop-event-init g c =
    none_yet g.K.Keeper.custody _ _ _ _ _ c.in_ok-replies.ensures.items c.in_ok-replies.ensures.len
    (omega (arith, c.in_ok-replies.ensures.capacity, c.len.ensures, ap length c.into_iter-event-iterator.ensures.into_iter_gives.0))

pub loop-event-preserved : goal.loop-event-preserved
loop-event-preserved g c =
    one_more g.K.Keeper.custody _ _ _ _ _ _ _ _ _ _ _ _ _ _ c.loop-event.invariant c.step-reply.ensures.goes
    c.push_reserved.ensures.items c.push_reserved.ensures.len c.push_reserved.ensures.capacity
    (omega (arith, ap length c.in-Some.ensures.steps.0))

pub push_reserved-requires : goal.push_reserved-requires
push_reserved-requires g c = omega (arith, c.loop-event.invariant.room, ap length c.in-Some.ensures.steps.0)

pub returns-clause-ok : goal.returns-clause-ok
returns-clause-ok g c =
    let items = c.into_iter-event-iterator.ensures.into_iter_gives in
    let all = YieldsList-from_vec {s = c.into_iter-event-iterator.result} c.args.events.items items.0
    (c.into_iter-event-iterator.result.rest.ok.0 ∙ ap length items.0) in
    let end = YieldsList-end all c.loop-event.yielded c.loop-event.event-iterator c.loop-event.yielded_by
    c.next.result c.next.new.self c.in-None.is c.next.ensures.steps in
    all_done g.K.Keeper.custody _ _ _ _ _ _ _ _ c.loop-event.invariant
    (sym (map-id c.loop-event.yielded) ∙ end.0)

pub returns-clause-lasting : goal.returns-clause-lasting
returns-clause-lasting g c =
    run_lasts g.K.Keeper.custody _ _ _ _ c.law_run.ensures.lasts
    (subst (λ o. InEach g.K.Keeper.custody o IsReached) c.self.view_is
    c.self.invariant) (returns-clause-ok g c)
