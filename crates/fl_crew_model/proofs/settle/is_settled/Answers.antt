use Rattle.std.proofs.Common.{rules, length}
use Rattle.fl_crew_model.specs.Crews.{AllOfWorkers}
use Rattle.fl_crew_model.proofs.Settled.{settled_weave}
use Rattle.fl_crew_model.proofs.settle.is_settled.Goals as goal

pub returns-clause-run : goal.returns-clause-run
returns-clause-run c fine =
    let of_workers : AllOfWorkers (length c.args.queues.now) c.args.deeds.now = search rules in
    settled_weave c.args.first c.args.deeds.now c.args.queues.now of_workers
    (c.all_agreed.ensures.0 fine)
