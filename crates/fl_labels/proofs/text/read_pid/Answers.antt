use Rattle.std.proofs.Common.{sym, ◌∙◌}
use Rattle.fl_labels.proofs.Digits.{no_boot, no_serial}
use Rattle.fl_labels.proofs.text.read_pid.Goals as goal

pub returns-in_err-boot : goal.returns-in_err-boot
returns-in_err-boot c =
    rw c.from_residual-in_err-boot.ensures
    (no_boot c.args.text.now _ (sym c.as_bytes.ensures.value ∙ c.in_ok-behind.ensures) _ _
    c.in_ok-node.ensures c.in_err-boot.ensures)

pub returns-in_err-serial : goal.returns-in_err-serial
returns-in_err-serial c =
    rw c.from_residual-in_err-serial.ensures
    (no_serial c.args.text.now _ (sym c.as_bytes.ensures.value ∙ c.in_ok-behind.ensures) _ _
    c.in_ok-node.ensures _ _ c.in_ok-boot.ensures c.in_err-serial.ensures)
