use Rattle.fl_noninterference_laws.proofs.Veiling.{sent_tagged}
use Rattle.fl_noninterference_laws.proofs.Nodes.{job_hidden, arrival_hidden, cannot_emit}
use Rattle.fl_noninterference_laws.proofs.laws.law_tainted.Goals as goal

pub returns-clause-job : goal.returns-clause-job
returns-clause-job c = λ tag n after desk upto pid act result tainted quiet guard does.
    job_hidden tag n tainted quiet guard does

pub returns-clause-arrival : goal.returns-clause-arrival
returns-clause-arrival c = λ tag n after d result veiled does. arrival_hidden tag n veiled does

pub returns-clause-sent : goal.returns-clause-sent
returns-clause-sent c = λ tag n after desk upto pid act d safe tainted does.
    sent_tagged tag n safe tainted does

pub returns-clause-silent : goal.returns-clause-silent
returns-clause-silent c = λ tag n pid tainted may. cannot_emit tag n tainted may
