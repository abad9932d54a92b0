-- What is true of a world at each moment of each run.
use Rattle.std.specs.Prelude.{◌≡◌, ℕ, List}
use Rattle.std.specs.List.{Contains}
use Rattle.std.specs.declared.option.Option.TheVariants.{Some}
use Rattle.fl_labels.specs.Found.{Within}
use Rattle.fl_labels.specs.SetBy.{In}
use Rattle.fl_labels.specs.declared.pid.Pid.{Pid}
use Rattle.fl_ops.specs.declared.op.Op.{Op}
use Rattle.fl_mailbox.specs.Offenders.{AllSafe}
use Rattle.fl_bench.specs.Process.{effective}
use Rattle.fl_bench.specs.declared.process.Process.{Process}
use Rattle.fl_system.specs.declared.admission.Admission.{Admission}
use Rattle.fl_system.specs.declared.sent.Sent.{Sent}
use Rattle.fl_system.specs.Audit.{SafeUnder}
use Rattle.fl_system.specs.Processes.{process_of}
use Rattle.fl_system.specs.Runs.{Moment, IsRun, end}
use Rattle.fl_system.specs.Union.{Union}
use Rattle.fl_system.specs.Whereabouts.{IsAnywhere}
use Rattle.fl_system.specs.World.{World, KeptNode}
use Rattle.fl_system.specs.WorldSteps.{IsAt}
use Rattle.fl_system_laws.specs.Goes.{carried}
use Rattle.fl_world_laws.specs.Places.{IsKnown, IsSavedAt}

-- two operations of one name, wherever they are, are equal; one of the number of a node, saved
-- anywhere or sent, is saved there; what is published is saved; what a packet carries was saved by
-- the node that sent it
pub record HasNames (w : World) : Type 0 where
  pub once : (a b : Op) → IsAnywhere w a → IsAnywhere w b → a.name ≡ b.name → a ≡ b
  pub owned : (op : Op) (s : KeptNode) → IsKnown w op → IsAt w op.name.node s → In s.node.saved op
  pub published : (number : ℕ) (s : KeptNode) → IsAt w number s
      → Within (Contains s.node.published) (In s.node.saved)
  pub sent : (sent : Sent) (op : Op) → Contains w.packets sent → Contains (carried sent) op
      → IsSavedAt w sent.from op

-- each open endpoint is safe by all that is saved
pub record HasSafeEndpoints (w : World) : Type 0 where
  pub safe : (number : ℕ) (s : KeptNode) (pid : Pid) (p : Process) → IsAt w number s
      → process_of s.node pid ≡ Some p
      → AllSafe (effective (Union w) p) p.labels p.mailbox.endpoints

-- each thing that was admitted is safe by all that is saved, whatever happens from now on
pub record HasSafeAudit (w : World) : Type 0 where
  pub safe : (later : List Moment) (entry : Admission) → IsRun w later → Contains w.audit entry
      → SafeUnder (Union (end w later)) entry

-- all of this
pub record IsSafeWorld (w : World) : Type 0 where
  pub names : HasNames w
  pub endpoints : HasSafeEndpoints w
  pub audit : HasSafeAudit w
