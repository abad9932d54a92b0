-- What is answered of an opening, and what a newcomer brings that is not its own.
use Rattle.std.specs.Prelude.{◌≡◌, ℕ}
use Rattle.std.specs.FinMap as map
use Rattle.std.specs.declared.result.Result.{Result}
use Rattle.std.specs.declared.result.Result.TheVariants.{Ok, Err}
use Rattle.fl_labels.specs.SetBy.{SetBy, In}
use Rattle.fl_labels.specs.declared.name.Name.{Name}
use Rattle.fl_ops.specs.declared.op.Op.{Op}
use Rattle.fl_ops.specs.OpOrder.{op_cmp}
use Rattle.fl_system.specs.declared.answer.Fault.{Fault}
use Rattle.fl_system.specs.declared.reply.Reply.{Reply}
use Rattle.fl_system.specs.declared.reply.Reply.TheVariants.{Booted, Refused}
use Rattle.fl_system.specs.Union.{Union}
use Rattle.fl_system.specs.World.{World, KeptNode}
use Rattle.fl_system.specs.WorldSteps.{IsAt}
use Rattle.fl_node.specs.Over.{NodeOver}
use Rattle.fl_nodes.specs.Over.{WorldOver}
use Rattle.fl_nodes.specs.Goes.{MayBeNode}

abbrev pub opened_reply : Result ℕ Fault → Reply
opened_reply (Ok boot) = Booted boot
opened_reply (Err fault) = Refused fault

-- An operation of this name comes with a newcomer of this number, which has saved these, and the node of its number has not saved
-- it; or one of the newcomer's number is saved, and not by the newcomer.
pub data IsStrayWith (w : World) (number : ℕ) (saved : SetBy op_cmp) (name : Name) : Type 0 where
  brought : (op : Op) {owner : KeptNode} → op.name ≡ name → In saved op
      → IsAt w op.name.node owner → ¬ In owner.node.saved op → IsStrayWith w number saved name
  awaited : (op : Op) → op.name ≡ name → op.name.node ≡ number → Union w op → ¬ In saved op
      → IsStrayWith w number saved name

-- with a node of this number too
abbrev pub over_with : {K : Type 0} → WorldOver K → ℕ → NodeOver K → WorldOver K
over_with over number n = record over { nodes = map.insert over.nodes number n }

-- the nodes of the world are these
abbrev pub AreNodes : {K : Type 0} → WorldOver K → World → Type 0
AreNodes over w =
    (number : ℕ)
    → MayBeNode (λ keeper k. Unit {0}) (map.get over.nodes number) (map.get w.nodes number)
