use Rattle.std.proofs.Common.{subst}
use Rattle.fl_ops.specs.Registry.{Listed}
use Rattle.fl_bench.specs.Foresight.{Could}
use Rattle.fl_desks.proofs.Views.{desk_within}
use Rattle.fl_desks.proofs.Whole.{whole}
use Rattle.fl_desks.proofs.listing.Listing.could.Goals as goal

pub returns-in-None-clause-could : goal.returns-in-None-clause-could
returns-in-None-clause-could c =
    let desks = c.self.inside.desks.items in
    let less = desk_within desks c.args.desk c.requires.0 (rw (← c.self.view_is) at c.requires.1) in
    let seen = rw (c.in-None.is, ← c.self.view_is) at c.in_ok-whole.ensures.ok in
    let all = whole c.self.inside.list.items desks c.args.desk c.index_mut-it.result.now c.requires.0 less c.index_mut-it.ensures.value c.self.invariant seen in
    rw (← c.self.view_is) (subst (λ list. Could c.args.guards (Listed list) c.args.bench.now c.args.job.now c.could-in-None.result) all c.could-in-None.ensures.could)
