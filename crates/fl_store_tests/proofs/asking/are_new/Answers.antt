use Rattle.std.proofs.Common.{refl}
use Rattle.fl_store_tests.proofs.NewLemmas.{new_two}
use Rattle.fl_store_tests.proofs.asking.are_new.Goals as goal

pub returns : goal.returns
returns c it = new_two c.args.first.now c.args.second.now c.args.saved.now (c.if-not-are_apart.ensures refl) (c.if-not-is_unused.ensures refl) (c.is_unused-2.ensures it)
