-- Nothing is kept, so no two operations have one name.
use Rattle.std.proofs.Common.{sym, ◌∙◌}
use Rattle.std.proofs.lemmas.Bool.{false≢true}
use Rattle.fl_labels.specs.SetBy.{contains-empty}
use Rattle.fl_ops.specs.OpOrder.{op_cmp}
use Rattle.fl_tests.proofs.keepers.BootedMakerMakesKeepers.make.Goals as goal

pub with-requires : goal.with-requires
with-requires c a b has_a has_b e =
    absurd (false≢true (sym (contains-empty op_cmp a) ∙ has_a))
