use Rattle.fl_labels.proofs.Digits.{no_seq}
use Rattle.fl_labels.proofs.text.name_of.Goals as goal

pub returns-in_err-seq : goal.returns-in_err-seq
returns-in_err-seq c =
    rw c.from_residual-in_err-seq.ensures
    (no_seq c.args.bytes.now _ _ c.in_ok-node.ensures c.in_err-seq.ensures)
