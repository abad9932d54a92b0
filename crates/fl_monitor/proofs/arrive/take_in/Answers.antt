use Rattle.fl_monitor.proofs.ArrivalLemmas.{both_in, none_in}
use Rattle.fl_monitor.proofs.arrive.take_in.Goals as goal

pub returns-clause-waits : goal.returns-clause-waits
returns-clause-waits c = (both_in _ _ _ _ _ (λ before later shown met. met.0) _ _ _ c.push_with.ensures).0

pub returns-clause-owns : goal.returns-clause-owns
returns-clause-owns c = (both_in _ _ _ _ _ (λ before later shown met. met.0) _ _ _ c.push_with.ensures).1

pub returns-clause-err : goal.returns-clause-err
returns-clause-err c = none_in _ _ _ _ _ (λ before later shown e met. met.1) _ _ _ c.push_with.ensures
