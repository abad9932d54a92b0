-- Why a line is answered that a keeper failed.
use Rattle.std.specs.Prelude.{◌≡◌, ◌⊎◌, ℕ}
use Rattle.std.specs.FinMap as map
use Rattle.std.specs.declared.option.Option.TheVariants.{None, Some}
use Rattle.std.specs.declared.result.Result.TheVariants.{Ok}
use Rattle.fl_store.specs.Custody.{Custody}
use Rattle.fl_makers.specs.Making.{Making}
use Rattle.fl_system.specs.declared.answer.Fault.TheVariants.{KeeperFailed}
use Rattle.fl_system.specs.declared.event.Event.{Event}
use Rattle.fl_system.specs.declared.reply.Reply.TheVariants.{Refused}
use Rattle.fl_system.specs.WorldSteps.{node_of}
use Rattle.fl_node.specs.Over.{NodeOver}
use Rattle.fl_nodes.specs.Failing.{FailsIn, IsBrokenAt}
use Rattle.fl_nodes.specs.Goes.{AreHonest}
use Rattle.fl_nodes.specs.Over.{WorldOver}
use Rattle.fl_calls.specs.Entering.{Enters}
use Rattle.fl_calls.specs.Over.{ClusterOver, GoesOn}
use Rattle.fl_calls.specs.declared.response.Response.{Response}
use Rattle.fl_calls.specs.declared.response.Response.TheVariants as response

-- a keeper failed, or a message does not arrive since one did
pub data SaysFailed : Response → Type 0 where
  refused : SaysFailed (response.Reply (Refused KeeperFailed))
  dropped : SaysFailed (response.Dropped KeeperFailed)

-- The node of this number is not there, and its maker refuses it since its keeper fails. Or it is
-- there, and this is why, in the world now; or it is opened, and this is why, in the world then.
pub data FailsOnceOpen {K M : Type 0} (custody : Custody K) (making : Making M K)
    (old new : ClusterOver K M) (number : ℕ) (fails : ClusterOver K M → Type 0) : Type 0 where
  shut : map.get old.world.nodes number ≡ None → making.refuses old.maker number KeeperFailed
      → FailsOnceOpen custody making old new number fails
  there : {n : NodeOver K} → map.get old.world.nodes number ≡ Some n → fails old
      → FailsOnceOpen custody making old new number fails
  opened : {between : ClusterOver K M} → map.get old.world.nodes number ≡ None
      → GoesOn custody making old between (λ openings w w'. Enters openings w number (Ok tt) w')
      → (AreHonest custody new.world → AreHonest custody between.world)
      → fails between → FailsOnceOpen custody making old new number fails

-- the event fails so, or what it begins is to be saved, and the keeper of its node is broken then
abbrev pub FailsCompleting : {K : Type 0} → Custody K → WorldOver K → WorldOver K → Event → Type 0
FailsCompleting custody old new event =
    FailsIn custody old new event ⊎ IsBrokenAt custody new (node_of event)
