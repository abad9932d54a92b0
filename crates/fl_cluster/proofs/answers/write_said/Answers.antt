use Rattle.fl_cluster.proofs.Saying.{shown_so}
use Rattle.fl_cluster.proofs.answers.write_said.Goals as goal

pub returns-in_default-clause-puts : goal.returns-in_default-clause-puts
returns-in_default-clause-puts g c =
    rw (shown_so c.args.cluster.now.world c.args.said.now c.in_default.not-Text)
    c.write_alone.ensures.puts
