use Rattle.fl_ops.specs.Registry.{Listed}
use Rattle.fl_noninterference_laws.proofs.BenchSteps.{does_too}
use Rattle.fl_noninterference_laws.proofs.Replies.{one_at}
use Rattle.fl_noninterference_laws.proofs.laws.law_other_jobs.Goals as goal

pub returns-clause-too : goal.returns-clause-too
returns-clause-too c = λ ops tag b c after job result alike shown does.
    does_too tag (Listed ops) alike shown does

pub returns-clause-one : goal.returns-clause-one
returns-clause-one c = λ ops tag b c after left job result other alike shown does also ample too.
    one_at tag (Listed ops) alike shown does also ample too
