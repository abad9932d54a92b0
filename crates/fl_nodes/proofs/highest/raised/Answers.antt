use Rattle.std.proofs.Common.{sym, ap, ◌∙◌, arith}
use Rattle.std.proofs.lemmas.Bool.{false≢true}
use Rattle.fl_labels.specs.SetBy.{contains, contains-empty}
use Rattle.fl_ops.specs.OpOrder.{op_cmp}
use Rattle.fl_nodes.proofs.highest.raised.Goals as goal

pub returns-in-Some-clause-covers : goal.returns-in-Some-clause-covers
returns-in-Some-clause-covers c op h =
    let below = c.in-Some.ensures.some.0 op h in
    grind (arith, below, c.max.ensures)

pub returns-in-None-clause-covers : goal.returns-in-None-clause-covers
returns-in-None-clause-covers c op h =
    absurd (false≢true (sym (contains-empty op_cmp op) ∙ ap (λ s. contains s op) (sym c.in-None.ensures.none) ∙ h))
