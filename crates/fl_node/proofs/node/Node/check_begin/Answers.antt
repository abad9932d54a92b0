use Rattle.fl_system.specs.State.{NodeState}
use Rattle.fl_node.proofs.Foreseen.{begins, begins_nameless, begins_not}
use Rattle.fl_node.proofs.node.Node.check_begin.Goals as goal

pub returns-in_default-clause-err : goal.returns-in_default-clause-err
returns-in_default-clause-err g c =
    let n : NodeState = record { number = c.self.inside.number; boot = c.self.inside.boot; saved = c.self.inside.saved; published = c.self.inside.listing.published; views = c.self.inside.listing.views; state = c.self.inside.state; procs = c.self.inside.benches.procs; benches = c.self.inside.benches.benches } in
    rw (← c.self.view_is) (begins_not n _ c.in_default.ensures.err)

pub returns-in-Some-clause-ok : goal.returns-in-Some-clause-ok
returns-in-Some-clause-ok g c =
    let n : NodeState = record { number = c.self.inside.number; boot = c.self.inside.boot; saved = c.self.inside.saved; published = c.self.inside.listing.published; views = c.self.inside.listing.views; state = c.self.inside.state; procs = c.self.inside.benches.procs; benches = c.self.inside.benches.benches } in
    rw (← c.self.view_is) (begins n c.in-Ok.ensures.ok _ c.in-Some.ensures)

pub returns-in-None-clause-err : goal.returns-in-None-clause-err
returns-in-None-clause-err g c =
    let n : NodeState = record { number = c.self.inside.number; boot = c.self.inside.boot; saved = c.self.inside.saved; published = c.self.inside.listing.published; views = c.self.inside.listing.views; state = c.self.inside.state; procs = c.self.inside.benches.procs; benches = c.self.inside.benches.benches } in
    rw (← c.self.view_is) (begins_nameless n c.in-Ok.ensures.ok c.in-None.ensures)
