use Rattle.std.proofs.Common.{length}
use Rattle.std.specs.Vec.{vec_len, vec_capacity}
use Rattle.fl_world.proofs.Running.{RunsTo}
use Rattle.fl_world.proofs.world.World.run.Given as goal

abbrev pub invariant-loop-event : goal.invariant-loop-event
invariant-loop-event g l =
    RunsTo g.K.Keeper.custody l.fn.self l.self l.yielded l.replies.items (vec_len l.replies)
    (vec_capacity l.replies) (length l.event-iterator.rest.items)
