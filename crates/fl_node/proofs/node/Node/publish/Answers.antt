use Rattle.std.proofs.Common.{◌∙◌, sym, ap, subst}
use Rattle.std.proofs.lemmas.Result.{err_from_is_err_and}
use Rattle.fl_labels.specs.SetBy as set
use Rattle.fl_ops.specs.OpOrder.{op_cmp}
use Rattle.fl_system.specs.Publishes.{Publishes}
use Rattle.fl_system.specs.Waiting.{IsRunning}
use Rattle.fl_desks.specs.Listing.{ListingState}
use Rattle.fl_node.specs.Sound.{IsListed}
use Rattle.fl_node.proofs.Sounds.{rests_on}
use Rattle.fl_node.proofs.node.Node.publish.Goals as goal

pub returns-in_err-batch-clause-publishes : goal.returns-in_err-batch-clause-publishes
returns-in_err-batch-clause-publishes g c =
    let p = err_from_is_err_and c.from_residual.result c.from_residual.ensures.1 in
    rw (p.1, p.2, ← c.self.view_is) (Publishes.none c.in_err-batch.ensures.err)

pub returns-in_default-clause-publishes : goal.returns-in_default-clause-publishes
returns-in_default-clause-publishes g c = rw (← c.self.view_is, c.in_default.ensures.err) (Publishes.no_room c.in_ok-batch.ensures.ok)

pub invariant_of-self-2 : goal.invariant_of-self-2
invariant_of-self-2 g c =
    rests_on c.self.inside.state _ _ _ (subst IsRunning (sym c.in_ok-batch.ensures.ok) tt)
    (ap (λ (l : ListingState). set.of_list {R = op_cmp} l.published) c.in-Ok.ensures.ok
    ∙ (subst (λ s. IsListed s c.self.inside.listing.published c.self.inside.saved) c.in_ok-batch.ensures.ok c.self.invariant.listed).1)
    c.in-Ok.ensures.desks c.give.ensures.count c.self.invariant

pub returns-clause-publishes : goal.returns-clause-publishes
returns-clause-publishes g c =
    rw (c.list.ensures, c.in-Ok.ensures.ok, c.give.ensures.procs, c.give.ensures.benches, ← c.self.view_is) (Publishes.published c.in_ok-batch.ensures.ok)
