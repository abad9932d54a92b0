use Rattle.fl_mailbox.specs.laws.Safe.{all_crosses, crosses_all}
use Rattle.fl_mailbox.proofs.laws.law_open_endpoints.Goals as goal

pub returns : goal.returns
returns g c = λ h process table. (all_crosses process table, crosses_all process table)
