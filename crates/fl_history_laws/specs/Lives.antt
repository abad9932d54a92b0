-- Who comes to live in a world, and who goes.
use Rattle.std.specs.Prelude.{◌≡◌}
use Rattle.fl_labels.specs.declared.pid.Pid.{Pid}
use Rattle.fl_jobs.specs.declared.job.Act.TheVariants.{Exit}
use Rattle.fl_jobs.specs.declared.job.Job.{Job}
use Rattle.fl_jobs.specs.declared.job.Job.TheVariants.{By}
use Rattle.fl_jobs.specs.declared.answer.Reply.TheVariants.{Done}
use Rattle.fl_bench.specs.Births.{IsBirth}
use Rattle.fl_bench.specs.declared.process.Process.{Process}
use Rattle.fl_system.specs.declared.reply.Reply.{Reply}
use Rattle.fl_system.specs.declared.reply.Reply.TheVariants.{Job as Answered}
use Rattle.fl_system.specs.Runs.{Move}
use Rattle.fl_system.specs.Taint.{Lives}
use Rattle.fl_system.specs.World.{World}
use Rattle.fl_history_laws.specs.Seats.{made}
use Rattle.fl_history_laws.specs.Doing.{IsDone, seen, IsOpened}

-- no process of this pid lives in the world
abbrev pub IsAbsent : World → Pid → Type 0
IsAbsent w pid = (process : Process) → ¬ Lives w pid process

-- the move is a job of a birth at the process's own node, and is answered with its pid
pub record IsBorn (w : World) (move : Move) (reply : Reply) (pid : Pid) (child : Process) : Type 0 where
  pub job : Job
  pub done : IsDone w move pid.node job
  pub birth : IsBirth (seen done) done.bench job pid child
  pub answered : reply ≡ made pid

-- the move is the process's own exit, answered `ok`, or its node is opened
pub data Leaves (w : World) (move : Move) (reply : Reply) (pid : Pid) : Type 0 where
  exits : IsDone w move pid.node (By pid Exit) → reply ≡ Answered Done → Leaves w move reply pid
  goes_down : IsOpened pid.node move reply → Leaves w move reply pid
