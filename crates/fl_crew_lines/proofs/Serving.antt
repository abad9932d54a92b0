-- What is told of crews that serve, and of those that do not.
use Rattle.std.proofs.Common.{◌≡◌, ◌∙◌, ◌<◌, ◌⊎◌, ℕ, List, length, sym, ap, subst, inl, inr, Ok, Err}
use Rattle.fl_calls.specs.Answer.{bad_packet, checked, shown_alone, text}
use Rattle.fl_calls.specs.Calls.{counted}
use Rattle.fl_calls.specs.Completing.{starved}
use Rattle.fl_calls.specs.declared.response.Check.{Check}
use Rattle.fl_calls.specs.declared.response.Response.{Response}
use Rattle.fl_calls.specs.declared.response.Response.TheVariants as response
use Rattle.fl_crew_calls.specs.Asking.{ChecksAt, IsServing, TellsText, Unites}
use Rattle.fl_crew_calls.specs.Over.{CrewsOver, IsCrewAt}
use Rattle.fl_labels.specs.SetBy as set
use Rattle.fl_labels.specs.SetBy.{SetBy}
use Rattle.fl_node.specs.Checking.{Checks}
use Rattle.fl_node.specs.Over.{NodeOver}
use Rattle.fl_ops.specs.OpOrder.{op_cmp}
use Rattle.fl_system.specs.declared.answer.Fault.{Fault}
use Rattle.fl_system.specs.declared.answer.Fault.TheVariants.{Stopped}
use Rattle.fl_system.specs.declared.reply.Reply.TheVariants.{Refused}
use Rattle.fl_wire.specs.Faults.{IsFaultOrMemory}
use Rattle.fl_wire.specs.PacketGrammar.{packet_fields, packet_kept}
use Rattle.fl_wire.specs.Spelling.{Spells}
use Rattle.fl_wire.specs.declared.fault.ReadFault.{ReadFault}
use Rattle.fl_wire.specs.declared.fault.ReadFault.TheVariants.{BadPacket, Memory}
use Rattle.fl_wire.specs.declared.packet.Packet.{Packet}
use Rattle.fl_workers.specs.Over.{CrewOver}

module _ {K M : Type 0} (crews : CrewsOver K M) where
  -- some crew is there
  abbrev pub IsThere : ℕ → Type 0
  IsThere number = (crew : CrewOver K) × IsCrewAt crews number crew

  -- it is the node of a crew that serves
  abbrev pub IsServed : ℕ → NodeOver K → Type 0
  IsServed number node = (crew : CrewOver K) × IsCrewAt crews number crew × IsServing crew × (node ≡ crew.node)

  -- a crew that is there does not serve
  abbrev pub IsShut : ℕ → Fault → Type 0
  IsShut number fault = (fault ≡ Stopped) × ((crew : CrewOver K) → IsCrewAt crews number crew → IsServing crew → ⊥)

  -- the line is answered why
  stopped_answer : (fault : Fault) (r : Response) → fault ≡ Stopped → r ≡ response.Reply (Refused fault) → r ≡ response.Reply (Refused Stopped)
  stopped_answer fault r is e = e ∙ ap (λ f. response.Reply (Refused f)) is

  -- ---- what one node has published

  pub text_stopped : (number : ℕ) (fault : Fault) (r : Response) → IsThere number → IsShut number fault
      → r ≡ response.Reply (Refused fault) → TellsText crews number (shown_alone r) crews
  text_stopped number fault r there shut e =
      subst (λ r. TellsText crews number (shown_alone r) crews) (sym (stopped_answer fault r shut.0 e))
      (TellsText.stopped there.1 (shut.1 there.0 there.1))

  pub text_told : (number : ℕ) (node : NodeOver K) (all : SetBy op_cmp) → IsServed number node
      → all ≡ set.of_list node.node.published → TellsText crews number (text all) crews
  text_told number node all served is =
      subst (λ ops. TellsText crews number (text ops) crews)
      (sym (is ∙ ap (λ (n : NodeOver K). set.of_list n.node.published) served.3)) (TellsText.tells served.1 served.2)

  pub text_starved : (number : ℕ) (node : NodeOver K) (r : Response) → IsServed number node
      → 0 < length node.node.published → r ≡ response.Reply starved → TellsText crews number (shown_alone r) crews
  text_starved number node r served some e =
      subst (λ r. TellsText crews number (shown_alone r) crews) (sym e)
      (TellsText.no_room served.1 served.2 (subst (λ (n : NodeOver K). 0 < length n.node.published) served.3 some))

  -- ---- what two nodes have published

  pub union_stopped : (first second number : ℕ) (fault : Fault) (r : Response) → (number ≡ first) ⊎ (number ≡ second)
      → IsThere number → IsShut number fault → r ≡ response.Reply (Refused fault) → Unites crews first second (shown_alone r) crews
  union_stopped first second number fault r which there shut e =
      subst (λ r. Unites crews first second (shown_alone r) crews) (sym (stopped_answer fault r shut.0 e))
      (Unites.stopped which there.1 (shut.1 there.0 there.1))

  pub union_told : (first second : ℕ) (one other : NodeOver K) (all : SetBy op_cmp) → IsServed first one → IsServed second other
      → all ≡ set.union (set.of_list one.node.published) (set.of_list other.node.published)
      → Unites crews first second (text all) crews
  union_told first second one other all served served' is =
      subst (λ ops. Unites crews first second (text ops) crews)
      (sym (is ∙ ap (λ (n : NodeOver K). set.union (set.of_list n.node.published) (set.of_list other.node.published)) served.3
      ∙ ap (λ (n : NodeOver K). set.union (set.of_list served.0.node.node.published) (set.of_list n.node.published)) served'.3))
      (Unites.tells served.1 served'.1 served.2 served'.2)

  pub union_starved : (first second : ℕ) (one other : NodeOver K) (r : Response) → IsServed first one → IsServed second other
      → (0 < length one.node.published) ⊎ (0 < length other.node.published) → r ≡ response.Reply starved
      → Unites crews first second (shown_alone r) crews
  union_starved first second one other r served served' some e =
      let published : (0 < length served.0.node.node.published) ⊎ (0 < length served'.0.node.node.published) = elim some [
        | inl h ↦ inl (subst (λ (n : NodeOver K). 0 < length n.node.published) served.3 h)
        | inr h ↦ inr (subst (λ (n : NodeOver K). 0 < length n.node.published) served'.3 h)
      ] in
      subst (λ r. Unites crews first second (shown_alone r) crews) (sym e)
      (Unites.no_room served.1 served'.1 served.2 served'.2 published)

  -- ---- what a packet would bring

  pub check_bad : (number : ℕ) (bytes : List ℕ) (fault : ReadFault) (place at : ℕ)
      → IsFaultOrMemory (packet_fields bytes) (packet_kept bytes) fault → fault ≡ BadPacket place → place ≡ at
      → ChecksAt crews number bytes (bad_packet at) crews
  check_bad number bytes fault place at bad is same =
      subst (λ at. ChecksAt crews number bytes (bad_packet at) crews) same
      (ChecksAt.no_packet (subst (IsFaultOrMemory (packet_fields bytes) (packet_kept bytes)) is bad))

  pub check_starved : (number : ℕ) (bytes : List ℕ) (fault : ReadFault) (r : Response)
      → IsFaultOrMemory (packet_fields bytes) (packet_kept bytes) fault → fault ≡ Memory → r ≡ response.Reply starved
      → ChecksAt crews number bytes (shown_alone r) crews
  check_starved number bytes fault r bad is e =
      let wants = subst (IsFaultOrMemory (packet_fields bytes) (packet_kept bytes)) is bad in
      subst (λ r. ChecksAt crews number bytes (shown_alone r) crews) (sym e) (ChecksAt.no_room wants.0 wants.1)

  pub check_stopped : (number : ℕ) (bytes : List ℕ) (packet : Packet) (fault : Fault) (r : Response) → IsThere number
      → Spells bytes packet → IsShut number fault → r ≡ response.Reply (Refused fault)
      → ChecksAt crews number bytes (shown_alone r) crews
  check_stopped number bytes packet fault r there spelled shut e =
      subst (λ r. ChecksAt crews number bytes (shown_alone r) crews) (sym (stopped_answer fault r shut.0 e))
      (ChecksAt.stopped there.1 (shut.1 there.0 there.1) spelled)

  pub check_told : (number : ℕ) (bytes : List ℕ) (node : NodeOver K) (packet : Packet) (count : ℕ) (check : Check)
      → IsServed number node → Spells bytes packet → Checks node.node packet (Ok count) → check ≡ counted packet count
      → ChecksAt crews number bytes (checked check) crews
  check_told number bytes node packet count check served spelled checks e =
      subst (λ check. ChecksAt crews number bytes (checked check) crews) (sym e)
      (ChecksAt.tells served.1 served.2 spelled (subst (λ (n : NodeOver K). Checks n.node packet (Ok count)) served.3 checks))

  pub check_refused : (number : ℕ) (bytes : List ℕ) (node : NodeOver K) (packet : Packet) (fault : Fault) (r : Response)
      → IsServed number node → Spells bytes packet → Checks node.node packet (Err fault) → r ≡ response.Reply (Refused fault)
      → ChecksAt crews number bytes (shown_alone r) crews
  check_refused number bytes node packet fault r served spelled checks e =
      subst (λ r. ChecksAt crews number bytes (shown_alone r) crews) (sym e)
      (ChecksAt.refuses served.1 served.2 spelled (subst (λ (n : NodeOver K). Checks n.node packet (Err fault)) served.3 checks))
