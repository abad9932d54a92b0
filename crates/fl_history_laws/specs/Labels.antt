-- How the labels of a process change, and runs that keep to a condition.
use Rattle.std.specs.Prelude.{◌≡◌, [], ◌∷◌, List}
use Rattle.std.specs.declared.result.Result.TheVariants.{Ok}
use Rattle.fl_labels.specs.Name.{name_cmp}
use Rattle.fl_labels.specs.SetBy.{SetBy}
use Rattle.fl_labels.specs.declared.cap.Cap.{Cap}
use Rattle.fl_labels.specs.declared.pid.Pid.{Pid}
use Rattle.fl_ops.specs.Registry.{Listed}
use Rattle.fl_rules.specs.Safety.{SafeChange}
use Rattle.fl_jobs.specs.declared.job.Side.{Side}
use Rattle.fl_jobs.specs.declared.job.Act.TheVariants.{Relabel}
use Rattle.fl_jobs.specs.declared.job.Job.TheVariants.{By}
use Rattle.fl_jobs.specs.declared.answer.Reply.TheVariants.{Done}
use Rattle.fl_bench.specs.Process.{effective, side_of, with_side}
use Rattle.fl_bench.specs.declared.process.Process.{Process}
use Rattle.fl_system.specs.declared.reply.Reply.{Reply}
use Rattle.fl_system.specs.declared.reply.Reply.TheVariants.{Job as Answered}
use Rattle.fl_system.specs.Runs.{Move, Moves, Moment}
use Rattle.fl_system.specs.Taint.{Lives}
use Rattle.fl_system.specs.World.{World}
use Rattle.fl_history_laws.specs.Doing.{IsDone, seen}

-- the process sets this label, and had in effect what that takes, under what its desk saw
pub record Sets (w : World) (move : Move) (reply : Reply) (pid : Pid) (p : Process) (side : Side) (label : SetBy name_cmp)
    : Type 0 where
  pub done : IsDone w move pid.node (By pid (Relabel side (Ok label)))
  pub answered : reply ≡ Answered Done
  pub safe : SafeChange (effective (seen done) p) (side_of side p.labels) label

-- the process p becomes q: its labels stay, or it sets one
pub data Relabels (w : World) (move : Move) (reply : Reply) (pid : Pid) (p q : Process) : Type 0 where
  keeps : q.labels ≡ p.labels → Relabels w move reply pid p q
  sets : {side : Side} {label : SetBy name_cmp} → Sets w move reply pid p side label
      → q.labels ≡ with_side side label p.labels → Relabels w move reply pid p q

-- no process of this pid has the capability in effect, under all that its node has published
abbrev pub Lacks : Pid → Cap → World → Type 0
Lacks pid c w = (process : Process) (lives : Lives w pid process)
    → ¬ effective (Listed lives.node.node.published) process c

-- the moments may follow one another from the world w on, and before each of them P holds
abbrev pub RunWhile : (World → Type 0) → World → List Moment → Type 0
RunWhile P w [] = Unit {0}
RunWhile P w (m ∷ ms) = P w × Moves w m.move m.reply m.after × RunWhile P m.after ms
