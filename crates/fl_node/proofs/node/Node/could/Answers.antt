use Rattle.fl_system.specs.State.{NodeState}
use Rattle.fl_node.proofs.Foreseen.{answers, not_at_bench}
use Rattle.fl_node.proofs.node.Node.could.Goals as goal

pub returns-in-Ok-clause-could : goal.returns-in-Ok-clause-could
returns-in-Ok-clause-could g c =
    let n : NodeState = record { number = c.self.inside.number; boot = c.self.inside.boot; saved = c.self.inside.saved; published = c.self.inside.listing.published; views = c.self.inside.listing.views; state = c.self.inside.state; procs = c.self.inside.benches.procs; benches = c.self.inside.benches.benches } in
    rw (← c.self.view_is) (answers n c.args.guards c.args.job.now c.in-Ok.reply (rw c.in-Ok.is at c.in_ok-reply.ensures.could) c.answer_order.result
    (rw (c.could.ensures.same, c.could.ensures.listing) at c.answer_order.ensures.ok) (rw (c.could.ensures.same, c.could.ensures.listing) at c.answer_order.ensures.err))

pub returns-in-Err-clause-could : goal.returns-in-Err-clause-could
returns-in-Err-clause-could g c =
    let n : NodeState = record { number = c.self.inside.number; boot = c.self.inside.boot; saved = c.self.inside.saved; published = c.self.inside.listing.published; views = c.self.inside.listing.views; state = c.self.inside.state; procs = c.self.inside.benches.procs; benches = c.self.inside.benches.benches } in
    rw (← c.self.view_is) (not_at_bench n c.args.guards c.args.job.now c.in-Err.refusal (rw c.in-Err.is at c.in_ok-reply.ensures.could))
