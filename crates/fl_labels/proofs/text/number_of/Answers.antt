use Rattle.std.proofs.Common.{◌==◌, true≢false, length, ap, sym, ◌∙◌}
use Rattle.fl_labels.proofs.Digits.{none_alone, not_alone}
use Rattle.fl_labels.proofs.text.number_of.Goals as goal

pub returns-in_err-number : goal.returns-in_err-number
returns-in_err-number c = rw c.from_residual.ensures (none_alone c.args.bytes.now c.in_err-number.ensures)

pub returns-then-not-is_empty : goal.returns-then-not-is_empty
returns-then-not-is_empty c =
    not_alone c.args.bytes.now _ _ c.in_ok-number.ensures (λ none.
    true≢false (sym (c.if-not-is_empty.ensures ∙ ap (λ rest. length rest == 0) none)))
