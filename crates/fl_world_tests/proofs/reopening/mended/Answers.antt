-- A keeper in memory is always honest, and holds just what it keeps.
use Rattle.std.proofs.Common.{refl}
use Rattle.fl_world_tests.proofs.reopening.mended.Goals as goal

pub reopen-requires-clause-trusted : goal.reopen-requires-clause-trusted
reopen-requires-clause-trusted g c n made at stopped = record { honest = λ _. tt; held = λ _ k is. (c.keeper.kept, refl) }
