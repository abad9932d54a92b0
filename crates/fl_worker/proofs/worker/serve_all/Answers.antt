use Rattle.std.proofs.Common.{length, ap, arith}
use Rattle.fl_worker.proofs.worker.serve_all.Goals as goal

pub loop-task-preserved : goal.loop-task-preserved
loop-task-preserved g c =
    let turn = c.turn-desk.ensures in
    let loop = c.loop-task in
    record {
      done = turn.done c.args.worker loop.yielded loop.invariant.done;
      room = omega (
        arith,
        turn.len,
        turn.capacity,
        loop.invariant.room,
        ap length c.in-Some.ensures.steps.0,
      );
    }
