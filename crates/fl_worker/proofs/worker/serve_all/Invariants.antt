use Rattle.std.proofs.Common.{◌+◌, ◌≤◌, length, vec_len, vec_capacity}
use Rattle.fl_worker.specs.Done.{Done}
use Rattle.fl_worker.specs.parts.Turns.{seated}
use Rattle.fl_worker.proofs.worker.serve_all.Given as goal

abbrev pub invariant-loop-task : goal.invariant-loop-task
invariant-loop-task g l = record {
  done : Done l.fn.worker l.yielded (seated l.seat l.desk);
  room : vec_len l.seat.entries + length l.task-iterator.rest.items
      ≤ vec_capacity l.seat.entries;
}
