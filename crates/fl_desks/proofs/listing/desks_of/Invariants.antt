use Rattle.fl_desks.proofs.Views.{AreNew}
use Rattle.fl_desks.proofs.listing.desks_of.Given as goal

abbrev pub invariant-loop : goal.invariant-loop
invariant-loop l = AreNew l.list l.counter l.desks.items
