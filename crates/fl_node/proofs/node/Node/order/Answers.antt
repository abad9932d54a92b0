use Rattle.std.proofs.Common.{◌∙◌, ap}
use Rattle.fl_bench.specs.Gifts.{cancelled}
use Rattle.fl_system.specs.Publishes.{at_bench_of}
use Rattle.fl_system.specs.State.{NodeState}
use Rattle.fl_node.proofs.JobLemmas.{not_begun_here}
use Rattle.fl_node.proofs.node.Node.order.Goals as goal

pub returns-in-Err-clause-orders : goal.returns-in-Err-clause-orders
returns-in-Err-clause-orders g c =
    let here = not_begun_here c.in-Err.ensures.begins in
    (here.0, rw (c.cancel.ensures.procs, c.cancel.ensures.benches) (ap (λ (n : NodeState). record n { benches = at_bench_of c.args.pid (λ b. cancelled b c.args.pid) n.benches }) (ap (λ x. x.node) c.self.view_is ∙ here.1)))
