use Rattle.std.proofs.Common.{sym, ap, ◌∙◌}
use Rattle.std.proofs.lemmas.Bool.{false≢true}
use Rattle.fl_labels.specs.SetBy.{contains, contains-empty}
use Rattle.fl_ops.specs.OpOrder.{op_cmp}
use Rattle.fl_closure_tests.proofs.cache.answers_again.Goals as goal

pub ask-requires : goal.ask-requires
ask-requires c = λ op h. absurd (false≢true (sym (contains-empty op_cmp op) ∙ ap (λ s. contains s op) (sym c.new-cache.ensures) ∙ h))
