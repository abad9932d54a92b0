use Rattle.std.proofs.Common.{arith}
use Rattle.fl_labels.specs.Words.{NoComma}
use Rattle.fl_script.specs.laws.Replacing.{not_all_at}
use Rattle.fl_script.proofs.Found.{passed_on}
use Rattle.fl_script.proofs.job.label_act.Goals as goal

pub returns-in_err-label-clause-memory : goal.returns-in_err-label-clause-memory
returns-in_err-label-clause-memory c = passed_on _ c.from_residual-in_err-label.ensures.1 c.in_err-label.ensures.memory
    (not_all_at NoComma c.args.rest.now 1 _ (omega (arith, c.in-len2.len_at_least)))
