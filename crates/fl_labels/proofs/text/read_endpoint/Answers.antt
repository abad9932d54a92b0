use Rattle.std.proofs.Common.{sym, ap, ◌∙◌, drop, arith}
use Rattle.fl_labels.specs.laws.OneReading.{same_number}
use Rattle.fl_labels.proofs.text.read_endpoint.Goals as goal

pub returns-then-number-gt-LAST_ENDPOINT : goal.returns-then-number-gt-LAST_ENDPOINT
returns-then-number-gt-LAST_ENDPOINT c = λ endpoint e.
    let front = sym c.as_bytes.ensures.value ∙ c.in_ok-behind.ensures in
    let is = c.in_ok-number.ensures in
    let same = same_number c.in_ok-number.number endpoint.number is.in_range (omega (arith, endpoint.number_in_range)) (sym is.written ∙ ap (drop 1) (sym front ∙ e)) in
    absurd (omega (arith, same, endpoint.number_in_range))
