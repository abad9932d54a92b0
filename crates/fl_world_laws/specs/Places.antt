-- Words of the laws of names: where an operation may be, and refusals for a name.
use Rattle.std.specs.Prelude.{◌⊎◌, ℕ}
use Rattle.fl_labels.specs.SetBy.{In}
use Rattle.fl_ops.specs.declared.op.Op.{Op}
use Rattle.fl_system.specs.declared.answer.Fault.{Fault}
use Rattle.fl_system.specs.declared.answer.Fault.TheVariants.{Clash, Impostor}
use Rattle.fl_system.specs.declared.reply.Reply.{Reply}
use Rattle.fl_system.specs.declared.reply.Reply.TheVariants.{Refused}
use Rattle.fl_system.specs.World.{World, KeptNode}
use Rattle.fl_system.specs.WorldSteps.{IsAt}
use Rattle.fl_system.specs.Union.{Union}
use Rattle.fl_system.specs.Whereabouts.{WasSent}

-- in a saved set, or in a packet
abbrev pub IsKnown : World → Op → Type 0
IsKnown w op = Union w op ⊎ WasSent w op

-- saved by the node of this number
pub record IsSavedAt (w : World) (number : ℕ) (op : Op) : Type 0 where
  pub s : KeptNode
  pub at : IsAt w number s
  pub saved : In s.node.saved op

-- that of two operations of one name, or of an operation that its own node does not know
abbrev pub IsNameFault : Fault → Type 0
IsNameFault (Clash name) = Unit {0}
IsNameFault (Impostor name) = Unit {0}
IsNameFault other = ⊥

abbrev pub IsNameRefusal : Reply → Type 0
IsNameRefusal (Refused fault) = IsNameFault fault
IsNameRefusal other = ⊥
