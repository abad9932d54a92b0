-- What is answered to a line that asks something of a world.
use Rattle.std.specs.Prelude.{ℕ}
use Rattle.std.specs.FinMap as map
use Rattle.std.specs.declared.option.Option.{Option}
use Rattle.std.specs.declared.option.Option.TheVariants.{None, Some}
use Rattle.fl_labels.specs.SetBy as set
use Rattle.fl_labels.specs.SetBy.{SetBy}
use Rattle.fl_ops.specs.OpOrder.{op_cmp}
use Rattle.fl_system.specs.declared.answer.Fault.{Fault}
use Rattle.fl_system.specs.declared.reply.Reply.{Reply}
use Rattle.fl_system.specs.declared.state.State.{State}
use Rattle.fl_system.specs.declared.state.State.TheVariants.{Running, Stopped}
use Rattle.fl_node.specs.Over.{NodeOver}
use Rattle.fl_nodes.specs.Over.{WorldOver}
use Rattle.fl_calls.specs.declared.response.Check.{Check}
use Rattle.fl_calls.specs.declared.response.Response.{Response}
use Rattle.fl_calls.specs.declared.response.Response.TheVariants as response

-- what an event is answered; why a message does not arrive; the operations of a registry; what a packet would bring;
-- where bytes are no packet; how much was admitted; or that the line names a packet that it cannot speak of
pub data Answer : Type 0 where
  replied : Reply → Answer
  dropped : Fault → Answer
  text : SetBy op_cmp → Answer
  checked : Check → Answer
  bad_packet : ℕ → Answer
  admitted : ℕ → Answer
  unknown : Answer

-- what a node in this state lends of its operations
abbrev pub lent : State → SetBy op_cmp → SetBy op_cmp
lent (Running pending) registry = registry
lent (Stopped doubt) registry = set.empty

-- what the node lends of what it has published, or nothing where it is not there
abbrev pub registry_of : {K : Type 0} → Option (NodeOver K) → SetBy op_cmp
registry_of None = set.empty
registry_of (Some n) = lent n.node.state (set.of_list n.node.published)

-- what a response says apart from any node: of the operations of one none
abbrev pub shown_alone : Response → Answer
shown_alone (response.Reply reply) = replied reply
shown_alone (response.Dropped fault) = dropped fault
shown_alone (response.Text number) = text set.empty
shown_alone (response.Union registry) = text registry
shown_alone (response.Checked check) = checked check
shown_alone (response.BadPacket place) = bad_packet place
shown_alone (response.Admitted number) = admitted number
shown_alone response.Unknown = unknown

-- what a response of the program says over these nodes
abbrev pub shown : {K : Type 0} → WorldOver K → Response → Answer
shown over (response.Reply reply) = replied reply
shown over (response.Dropped fault) = dropped fault
shown over (response.Text number) = text (registry_of (map.get over.nodes number))
shown over (response.Union registry) = text registry
shown over (response.Checked check) = checked check
shown over (response.BadPacket place) = bad_packet place
shown over (response.Admitted number) = admitted number
shown over response.Unknown = unknown
