use Rattle.fl_system_laws.specs.laws.Finding.{restart_loses, restart_keeps, restart_boots, restarts_other}
use Rattle.fl_system_laws.proofs.laws.law_restart.Goals as goal

pub returns-clause-lost : goal.returns-clause-lost
returns-clause-lost c = λ n n' k' boot running h. (restart_loses n running h).node_is

pub returns-clause-kept : goal.returns-clause-kept
returns-clause-kept c = λ n n' k' boot batch pending h. (restart_keeps n batch pending h).node_is

pub returns-clause-boot : goal.returns-clause-boot
returns-clause-boot c = λ n n' k' keeps boot running h. restart_boots n keeps running h

pub returns-clause-own : goal.returns-clause-own
returns-clause-own c = λ n n' k' keeps fault running h. restarts_other n keeps running h
