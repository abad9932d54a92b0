use Rattle.std.proofs.Common.{refl}
use Rattle.fl_node.proofs.Sounds.{counts_on}
use Rattle.fl_node.proofs.Working.{decided, orders_at, refused_at, replied_at, sent_at}
use Rattle.fl_node.proofs.node.Node.work.Goals as goal

pub invariant_of-self : goal.invariant_of-self
invariant_of-self g c = rw c.job.ensures.same (counts_on c.self.inside.state _ _ refl c.job.ensures.count c.self.invariant)

pub invariant_of-self-in-Ok-Out : goal.invariant_of-self-in-Ok-Out
invariant_of-self-in-Ok-Out g c = rw c.job.ensures.same (counts_on c.self.inside.state _ _ refl c.job.ensures.count c.self.invariant)

pub invariant_of-self-in-Ok-Order : goal.invariant_of-self-in-Ok-Order
invariant_of-self-in-Ok-Order g c = rw c.job.ensures.same (counts_on c.self.inside.state _ _ refl c.job.ensures.count c.self.invariant)

pub invariant_of-self-in-Err : goal.invariant_of-self-in-Err
invariant_of-self-in-Err g c = rw c.job.ensures.same (counts_on c.self.inside.state _ _ refl c.job.ensures.count c.self.invariant)

pub returns-in-Ok-Reply-clause-works : goal.returns-in-Ok-Reply-clause-works
returns-in-Ok-Reply-clause-works g c =
    let does = rw c.in-Ok-Reply.field-0-is at c.in-Ok-Reply.ensures.does in
    rw (← c.self.view_is, c.job.ensures.same) (λ seen at. replied_at _ c.args.desk seen c.args.job.now c.in-Ok-Reply.reply _ (decided _ c.args.desk seen c.args.job.now _ c.job.new.self at (does seen at)))

pub returns-in-Ok-Out-clause-works : goal.returns-in-Ok-Out-clause-works
returns-in-Ok-Out-clause-works g c =
    let does = rw c.in-Ok-Out.field-0-is at c.in-Ok-Out.ensures.does in
    rw (← c.self.view_is, c.job.ensures.same) (λ seen at. sent_at _ c.args.desk seen c.args.job.now c.in-Ok-Out.packet _ (decided _ c.args.desk seen c.args.job.now _ c.job.new.self at (does seen at)))

pub returns-in-Err-clause-works : goal.returns-in-Err-clause-works
returns-in-Err-clause-works g c =
    rw (← c.self.view_is, c.job.ensures.same) (λ seen at. refused_at _ c.args.desk seen c.args.job.now c.in-Err.refusal _ (decided _ c.args.desk seen c.args.job.now _ c.job.new.self at (c.in-Err.ensures.does seen at)))

pub returns-in-Ok-Order-clause-works : goal.returns-in-Ok-Order-clause-works
returns-in-Ok-Order-clause-works g c =
    let does = rw c.in-Ok-Order.field-0-is at c.in-Ok-Order.ensures.does in
    let orders = rw (c.into_inner.ensures, c.job.ensures.same) at c.order.ensures.orders in
    rw (← c.self.view_is) (λ seen at. orders_at _ c.args.desk seen c.args.job.now c.in-Ok-Order.body c.in-Ok-Order.pid _ c.order.result c.order.new.self.node at
    (decided _ c.args.desk seen c.args.job.now _ c.job.new.self at (does seen at)) orders)
