use Rattle.fl_labels.proofs.Digits.{no_dot}
use Rattle.fl_labels.proofs.text.dotted_in.Goals as goal

pub returns-in_err-rest : goal.returns-in_err-rest
returns-in_err-rest c =
    rw c.from_residual-in_err-rest.ensures
    (no_dot c.args.bytes.now _ _ c.in_ok-number.ensures c.in_err-rest.ensures)
