use Rattle.fl_machine_turns.specs.Completing.{Begins}
use Rattle.fl_machine_turns.specs.Guarding.{Guarded}
use Rattle.fl_machine.proofs.Jobs.{job_responds}
use Rattle.fl_machine.proofs.asking.begin_job.Goals as goal

pub returns : goal.returns
returns g c =
    let number = c.args.node.now.node.number in
    let said = c.begin-said in
    job_responds g.K.Keeper.custody c.args.node.now said.new.node c.args.keys.now
    c.said_of_job.result said.result.1
    (λ s. Guarded number c.args.guards s c.args.job (Begins number)) said.result.0
    (c.said_of_job.ensures said.new.node.node) said.ensures.does said.ensures.same
    (λ failed. absurd (said.ensures.cause failed))
