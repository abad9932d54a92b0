use Rattle.fl_desks.proofs.listing.Listing.extend.Goals as goal

pub returns-in-Ordered-clause-ok : goal.returns-in-Ordered-clause-ok
returns-in-Ordered-clause-ok c = rw c.in-Ordered.is (c.order.ensures.ok c.in-Ordered.field-1)
