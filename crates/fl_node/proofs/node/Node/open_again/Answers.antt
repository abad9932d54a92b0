use Rattle.std.proofs.Common.{◌∙◌, sym, ap}
use Rattle.fl_labels.specs.SetBy as set
use Rattle.fl_labels.specs.SetBy.{of_list-members}
use Rattle.fl_ops.specs.OpOrder.{op_cmp}
use Rattle.fl_ops.specs.OpLaws.{op_total, op_exact}
use Rattle.fl_desks.specs.Listing.{ListingState}
use Rattle.fl_system.specs.Openings.{OpensAgain}
use Rattle.fl_node.proofs.node.Node.open_again.Goals as goal

pub returns-in-Ok-clause-opens : goal.returns-in-Ok-clause-opens
returns-in-Ok-clause-opens g c =
    let ok = rw (← c.desks-desks.ensures) at c.in-Ok.ensures.ok in
    rw (c.in-Ok.ensures.listing, c.in-Ok.ensures.benches, ← c.desks-desks.ensures, ← c.self.view_is, ← c.doubt-doubt.ensures) (λ honest.
    let held = ok honest in
    (held.0, λ after is. let b = held.1 after is in (b.0, b.1, OpensAgain.opens b.2)))

pub returns-in-Err-clause-opens : goal.returns-in-Err-clause-opens
returns-in-Err-clause-opens g c =
    let err = rw (← c.desks-desks.ensures) at c.in-Err.ensures.err in
    rw (c.halt.ensures, ← c.self.view_is, ← c.doubt-doubt.ensures) (λ honest.
    let held = err honest in
    (held.0, λ after is. let b = held.1 after is in (b.0, b.1, OpensAgain.stays b.2)))

pub returns-in-Err-clause-cause : goal.returns-in-Err-clause-cause
returns-in-Err-clause-cause g c = rw (← c.self.view_is) c.in-Err.ensures.cause

pub invariant_of-self : goal.invariant_of-self
invariant_of-self g c = record {
  numbered = c.self.invariant.numbered;
  booted = c.in-Ok.ensures.positive;
  once = c.in-Ok.ensures.names;
  fresh = tt;
  listed = ap (λ (l : ListingState). set.of_list {R = op_cmp} l.published) c.in-Ok.ensures.listing ∙ of_list-members op_total op_exact c.in-Ok.recovered.saved;
  kept = c.in-Ok.ensures.kept;
  paired = c.in-Ok.ensures.count ∙ sym c.in-Ok.ensures.desks;
}
