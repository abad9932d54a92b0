-- Steps are totally ordered, and where two from one group tie they are equal.
use Rattle.std.specs.Cmp.{IsTotalOrder}
use Rattle.std.proofs.lemmas.Cmp.{then_total, on_total}
use Rattle.fl_labels.specs.CapOrder.{cap_total}
use Rattle.fl_labels.specs.NameOrder.{name_total}
use Rattle.fl_chains.specs.Step.{step_cmp}
use Rattle.fl_chains.specs.declared.step.Step.{Step}

pub step_total : IsTotalOrder step_cmp
step_total = then_total (on_total (λ (s : Step). s.cap) cap_total)
    (then_total (on_total (λ (s : Step). s.name) name_total)
    (on_total (λ (s : Step). s.group) name_total))
