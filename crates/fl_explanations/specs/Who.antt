-- Who has a capability in effect, and whose use or login leads to it.
use Rattle.std.specs.Prelude.{◌⊎◌, ◌≢◌, List, []}
use Rattle.std.specs.List.{Contains}
use Rattle.std.specs.declared.option.Option.{Option}
use Rattle.fl_labels.specs.Name.{name_cmp}
use Rattle.fl_labels.specs.Pid.{pid_cmp}
use Rattle.fl_labels.specs.SetBy.{In}
use Rattle.fl_labels.specs.declared.cap.Cap.{Cap}
use Rattle.fl_labels.specs.declared.name.Name.{Name}
use Rattle.fl_labels.specs.declared.pid.Pid.{Pid}
use Rattle.fl_ops.specs.Registry.{InEffect, Listed}
use Rattle.fl_ops.specs.declared.op.Op.{Op}
use Rattle.fl_bench.specs.Bench.{BenchState}
use Rattle.fl_bench.specs.Process.{owns}
use Rattle.fl_bench.specs.declared.process.Process.{Process}
use Rattle.fl_chains.specs.Giver.{IsGiver}
use Rattle.fl_chains.specs.Leading.{GroupLeads, LoginLeads, login_cmp}
use Rattle.fl_chains.specs.Least.{FindsLeast}
use Rattle.fl_chains.specs.Rising.{AreRising}
use Rattle.fl_chains.specs.declared.logins.Login.{Login}
use Rattle.fl_explanations.specs.Lines.{processes_at}
use Rattle.fl_explanations.specs.declared.who.Who.{Who}

-- the bench has this process, and the process has c in effect
abbrev pub IsHolder : List Op → Option BenchState → Cap → Pid → Type 0
IsHolder ops bench c pid = (process : Process)
    × Contains (processes_at bench) (pid, process) × InEffect (Listed ops) (In (owns process)) c

-- the least operation that gives c to everybody, and all processes, groups and logins
pub record IsWho (ops : List Op) (bench : Option BenchState) (c : Cap) (who : Who) : Type 0 where
  pub everybody : FindsLeast name_cmp (IsGiver (Listed ops) c) who.everybody
  pub processes : AreRising pid_cmp (IsHolder ops bench c) who.processes.items
  pub groups : AreRising name_cmp (GroupLeads (Listed ops) c) who.groups.items
  pub logins : AreRising login_cmp (LoginLeads (Listed ops) c) who.logins.items

-- there is a process, or a group or a login leads to c
abbrev pub MayBeNamed : List Op → Option BenchState → Cap → Type 0
MayBeNamed ops bench c = (processes_at bench ≢ [])
    ⊎ (((group : Name) × GroupLeads (Listed ops) c group)
    ⊎ ((login : Login) × LoginLeads (Listed ops) c login))
