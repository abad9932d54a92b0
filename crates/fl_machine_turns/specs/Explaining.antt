-- What a node explains of itself. Nothing changes by it.
use Rattle.std.specs.Prelude.{◌≡◌, ◌≢◌, List, [], length, map}
use Rattle.std.specs.List.{Contains}
use Rattle.std.specs.declared.option.Option.{Option}
use Rattle.std.specs.declared.option.Option.TheVariants.{None, Some}
use Rattle.fl_labels.specs.Caps.{Caps}
use Rattle.fl_labels.specs.SetBy.{members}
use Rattle.fl_labels.specs.declared.cap.Cap.{Cap}
use Rattle.fl_labels.specs.declared.cap.Cap.TheVariants.{Use}
use Rattle.fl_labels.specs.declared.pid.Pid.{Pid}
use Rattle.fl_ops.specs.Registry.{From, Listed, Reach, WithGlobal}
use Rattle.fl_ops.specs.declared.op.Op.{Op}
use Rattle.fl_opset.specs.RegistryText.{op_line}
use Rattle.fl_explanations.specs.Lines.{logged, node_lines, process_lines, processes_at, who_lines, why_lines}
use Rattle.fl_explanations.specs.Who.{IsWho, MayBeNamed}
use Rattle.fl_explanations.specs.Why.{BeginsOwned, BeginsWithUse, IsWhy}
use Rattle.fl_explanations.specs.declared.who.Who.{Who as AnyWho}
use Rattle.fl_explanations.specs.declared.why.First.{First}
use Rattle.fl_explanations.specs.declared.why.Why.{Why as AnyWhy}
use Rattle.fl_jobs.specs.declared.answer.Refusal.TheVariants.{NoProcess}
use Rattle.fl_jobs.specs.declared.answer.Reply.TheVariants.{NotYet}
use Rattle.fl_bench.specs.Bench.{BenchState}
use Rattle.fl_bench.specs.Process.{owns}
use Rattle.fl_bench.specs.declared.process.Process.{Process}
use Rattle.fl_system.specs.Numbered.{item_at}
use Rattle.fl_system.specs.Processes.{process_of}
use Rattle.fl_system.specs.State.{NodeState}
use Rattle.fl_system.specs.Waiting.{IsRunning, NotRunning}
use Rattle.fl_system.specs.World.{KeptNode}
use Rattle.fl_system.specs.declared.answer.Fault.{Fault}
use Rattle.fl_system.specs.declared.answer.Fault.TheVariants as faults
use Rattle.fl_system.specs.declared.reply.Reply.TheVariants.{Job, Refused}
use Rattle.fl_calls.specs.Answer as says
use Rattle.fl_machine_lines.specs.declared.explaining.Explanation.{Explanation}
use Rattle.fl_machine_lines.specs.declared.explaining.Explanation.TheVariants.{Log, Why, WhyGroup, Who, Show, ShowProcess}
use Rattle.fl_machine_turns.specs.Answer.{Answer, said, explained, starved_line}

-- The first of the shortest chains to the capability, or that none leads to it. There may be no
-- memory to find one that has a step.
pub data TellsWhy (ops : List Op) (roots : Caps) (Begins : Cap → First → Type 0) (cap : Cap)
    : Answer → Type 0 where
  chain : {why : AnyWhy} → IsWhy ops roots Begins cap why
      → TellsWhy ops roots Begins cap (explained (why_lines why))
  none : ¬ Reach (Listed ops) roots cap
      → TellsWhy ops roots Begins cap (said (says.replied (Job NotYet)))
  no_room : ¬ roots cap → TellsWhy ops roots Begins cap starved_line

-- of who owns what this process does
abbrev pub TellsWhyOf : List Op → Process → Cap → Answer → Type 0
TellsWhyOf ops p cap =
    let owned = members (owns p) in
    TellsWhy ops (WithGlobal (Listed ops) (Contains owned)) (BeginsOwned ops owned) cap

-- the bench of its processes: a machine has only one
abbrev pub bench_of : NodeState → Option BenchState
bench_of n = item_at n.benches 1

-- how it stands, and each of its processes
abbrev pub overview_of : NodeState → Answer
overview_of n =
    explained (node_lines n.number n.boot (length n.published) n.state (processes_at (bench_of n)))

-- what the process has, or that there is none
abbrev pub told_of : Pid → Option Process → Answer
told_of pid (Some p) = explained (process_lines p)
told_of pid None = said (says.replied (Refused (faults.Refused (NoProcess pid))))

pub data Explains (n : NodeState) : Explanation → Answer → Type 0 where
  log : {place : _}
      → Explains n (Log place) (explained (map op_line (logged place n.published)))
  why : {pid : _} {cap : Cap} {p : Process} {answer : Answer} → process_of n pid ≡ Some p
      → TellsWhyOf n.published p cap answer → Explains n (Why pid cap) answer
  no_process : {pid : _} {cap : Cap} → process_of n pid ≡ None
      → Explains n (Why pid cap) (said (says.replied (Refused (faults.Refused (NoProcess pid)))))
  why_group : {group : _} {cap : Cap} {answer : Answer}
      → TellsWhy n.published (From (Use group)) (BeginsWithUse group) cap answer
      → Explains n (WhyGroup group cap) answer
  who : {cap : Cap} {found : AnyWho} → IsWho n.published (bench_of n) cap found
      → Explains n (Who cap) (explained (who_lines found))
  -- where somebody may be named: there may be no memory for all
  who_no_room : {cap : Cap} → MayBeNamed n.published (bench_of n) cap
      → Explains n (Who cap) starved_line
  show : Explains n Show (overview_of n)
  -- of a node that has a process: there may be no memory for all pids
  show_no_room : processes_at (bench_of n) ≢ [] → Explains n Show starved_line
  show_process : {pid : _} → Explains n (ShowProcess pid) (told_of pid (process_of n pid))

-- what a node tells, where it runs
pub data WhereRunning (s : KeptNode) (tells : NodeState → Answer → Type 0) : Answer → Type 0 where
  running : {answer : Answer} → IsRunning s.node.state → tells s.node answer
      → WhereRunning s tells answer
  stopped : {fault : Fault} → NotRunning s.node.state fault
      → WhereRunning s tells (said (says.replied (Refused fault)))

-- what it explains
abbrev pub IsExplained : KeptNode → Explanation → Answer → Type 0
IsExplained s what = WhereRunning s (λ n. Explains n what)
