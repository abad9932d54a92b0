use Rattle.fl_ops.specs.Registry.{Listed}
use Rattle.fl_noninterference_laws.proofs.BenchSteps.{does_hidden, arrives_hidden}
use Rattle.fl_noninterference_laws.proofs.laws.law_tainted_jobs.Goals as goal

pub returns-clause-job : goal.returns-clause-job
returns-clause-job c = λ ops tag b after pid act result tainted quiet does.
    does_hidden tag (Listed ops) b tainted quiet does

pub returns-clause-arrival : goal.returns-clause-arrival
returns-clause-arrival c = λ ops tag b after d result veiled does.
    arrives_hidden tag (Listed ops) b veiled does
