use Rattle.std.proofs.Common.{◌∙◌, ap, Option}
use Rattle.fl_system.specs.declared.state.Batch.{Batch}
use Rattle.fl_settling.specs.Numbers.{bench_by}
use Rattle.fl_manning.specs.Begun.{benches_after}
use Rattle.fl_manning.proofs.Begun.{are_begun, same_due}
use Rattle.fl_manning.proofs.beginning.begin_all.Goals as goal

pub returns-clause-workers : goal.returns-clause-workers
returns-clause-workers g c =
    let given = c.in_ok-give_out.ensures in
    let due =
    c.in_ok-due.ensures.given
    ∙ same_due _ _ c.in_ok-begin_batch.ensures.ok in
    are_begun c.args.queues.items c.args.registrar.now.due _ c.args.workers.now
    c.give_out.new.workers c.finish_due.new.workers c.catch_up_all.new.workers given.still
    c.finish_due.ensures.same c.catch_up_all.ensures.caught_up given.ready given.tasks
    (λ w is_one.
    c.finish_due.ensures.bench w is_one
    ∙ ap (λ (d : Option Batch). benches_after (bench_by c.give_out.new.workers) d w) due)
