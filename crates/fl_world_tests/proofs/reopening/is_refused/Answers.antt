-- A keeper in memory is always honest, and holds just what it keeps.
use Rattle.std.proofs.Common.{refl}
use Rattle.fl_world_tests.proofs.reopening.is_refused.Goals as goal

pub reopen-reply-requires-clause-trusted : goal.reopen-reply-requires-clause-trusted
reopen-reply-requires-clause-trusted g c n made at stopped = record { honest = λ _. tt; held = λ _ k is. (c.keeper.kept, refl) }
