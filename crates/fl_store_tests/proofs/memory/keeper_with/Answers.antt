use Rattle.fl_store.specs.laws.Unused.{once_one}
use Rattle.fl_store_tests.proofs.memory.keeper_with.Goals as goal

pub with-requires : goal.with-requires
with-requires c = once_one c.args.op
