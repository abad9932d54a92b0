use Rattle.std.proofs.Common.{refl, ap}
use Rattle.std.proofs.lemmas.Result.{err_from_is_err_and}
use Rattle.fl_system.specs.Jobs.{Jobs}
use Rattle.fl_desks.specs.Listing.{ListingState}
use Rattle.fl_node.proofs.Sounds.{looks_on}
use Rattle.fl_node.proofs.Working.{has_view, item_here, jobs_then, turned}
use Rattle.fl_node.proofs.node.Node.job.Goals as goal

pub returns-in_err-running-clause-job : goal.returns-in_err-running-clause-job
returns-in_err-running-clause-job g c =
    let p = err_from_is_err_and c.from_residual.result c.from_residual.ensures.1 in
    rw (p.1, p.2, ← c.self.view_is) (Jobs.stopped c.in_err-running.ensures.err)

pub invariant_of-self : goal.invariant_of-self
invariant_of-self g c =
    let v = has_view _ c.args.desk (rw (← c.self.view_is) at c.requires) in
    looks_on c.self.inside.state _ _ (ap (λ (l : ListingState). l.published) (c.in-Ok.ensures.ok v.seen v.at)) c.in-Ok.ensures.desks c.self.invariant

pub returns-in_default-clause-job : goal.returns-in_default-clause-job
returns-in_default-clause-job g c =
    let v = has_view _ c.args.desk (rw (← c.self.view_is) at c.requires) in
    rw (← c.self.view_is, c.in_default.ensures.err, c.count.ensures)
    (turned _ c.args.desk c.args.upto v.seen c.args.job.now c.in_ok-running.ensures.ok v.at (c.in_default.ensures.wants v.seen v.at))

pub returns-clause-job : goal.returns-clause-job
returns-clause-job g c =
    let v = has_view _ c.args.desk (rw (← c.self.view_is) at c.requires) in
    let works = rw (c.in-Ok.ensures.ok v.seen v.at) at c.work.ensures.works in
    rw (← c.self.view_is) (jobs_then _ c.args.desk c.args.upto _ c.args.job.now c.work.result c.work.new.self.node
    (record { running = c.in_ok-running.ensures.ok; seen = v.seen; has_seen = v.at; sees = refl })
    (works _ (item_here _ _ c.args.desk v.seen v.at)))
