use Rattle.fl_desks.proofs.Views.{desk_within, does_at}
use Rattle.fl_desks.proofs.listing.Listing.work.Goals as goal

pub returns-clause-does : goal.returns-clause-does
returns-clause-does c =
    let less = desk_within c.self.inside.desks.items c.args.desk c.requires.0 (rw (← c.self.view_is) at c.requires.1) in
    rw (← c.self.view_is) (λ seen at. does_at c.self.inside.list.items c.self.inside.desks.items c.args.desk c.index_mut-it.result.now seen
    c.requires.0 less c.index_mut-it.ensures.value c.self.invariant.fronts at _ _ _ _ c.job.ensures.does)
