use Rattle.fl_store.specs.laws.Unused.{new_none}
use Rattle.fl_store_tests.proofs.asking.save_none.Goals as goal

pub save-requires : goal.save-requires
save-requires g c honest k held = new_none k.saved
