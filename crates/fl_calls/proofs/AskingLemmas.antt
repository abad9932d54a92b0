-- What is asked of nodes that are there, of each world that they may be.
use Rattle.std.proofs.Common.{◌≡◌, ◌∙◌, ◌<◌, ◌⊎◌, ◌||◌, ℕ, false, List, length, refl, sym, ap, subst, inl, inr, Some, Ok, Err}
use Rattle.std.proofs.Math.Bool.{or-false}
use Rattle.std.proofs.lemmas.List.{nil_from_length}
use Rattle.std.specs.FinMap as map
use Rattle.std.specs.List.{list_any}
use Rattle.std.specs.Ordering.{eq_by_cmp}
use Rattle.fl_labels.specs.SetBy as set
use Rattle.fl_labels.specs.SetBy.{SetBy, len-empty, len-members, contains-members, contains-union, same_set}
use Rattle.fl_ops.specs.OpLaws.{op_total, op_exact}
use Rattle.fl_ops.specs.OpOrder.{op_cmp}
use Rattle.fl_ops.specs.declared.op.Op.{Op}
use Rattle.fl_opset.specs.laws.Unions.{union_comm}
use Rattle.fl_store.specs.Custody.{Custody}
use Rattle.fl_system.specs.declared.answer.Fault.{Fault}
use Rattle.fl_system.specs.declared.reply.Reply.TheVariants.{Refused}
use Rattle.fl_system.specs.declared.state.State.{State}
use Rattle.fl_system.specs.declared.state.State.TheVariants.{Running, Stopped}
use Rattle.fl_system.specs.State.{NodeState}
use Rattle.fl_system.specs.Waiting.{IsRunning, NotRunning}
use Rattle.fl_system.specs.World.{World, KeptNode}
use Rattle.fl_system.specs.WorldSteps.{IsAt}
use Rattle.fl_wire.specs.Faults.{IsFaultOrMemory}
use Rattle.fl_wire.specs.PacketGrammar.{packet_kept, packet_fields}
use Rattle.fl_wire.specs.declared.fault.ReadFault.{ReadFault}
use Rattle.fl_wire.specs.declared.fault.ReadFault.TheVariants.{BadPacket, Memory}
use Rattle.fl_wire.specs.declared.packet.Packet.{Packet}
use Rattle.fl_node.specs.Checking.{Checks}
use Rattle.fl_node.specs.Over.{NodeOver}
use Rattle.fl_nodes.specs.Over.{WorldOver}
use Rattle.fl_nodes.specs.Goes.{MayBe}
use Rattle.fl_calls.specs.declared.response.Check.{Check}
use Rattle.fl_calls.specs.declared.response.Response.{Response}
use Rattle.fl_calls.specs.declared.response.Response.TheVariants as response
use Rattle.fl_calls.specs.Answer.{text, checked, bad_packet, lent, registry_of, shown}
use Rattle.fl_wire.specs.Spelling.{Spells}
use Rattle.fl_calls.specs.Calls.{counted, Tells, Unites, ChecksAt}
use Rattle.fl_calls.specs.Completing.{starved}
use Rattle.fl_calls.proofs.Going.{there}

-- a running node lends what it has published
lends : (state : State) (registry : SetBy op_cmp) → IsRunning state → lent state registry ≡ registry
lends (Running pending) registry h = refl
lends (Stopped doubt) registry h = absurd h

-- a set without members has none
lacks : (s : SetBy op_cmp) → set.len s ≡ 0 → (q : Op) → set.contains s q ≡ false
lacks s none q =
    contains-members s q
    ∙ ap (λ ops. list_any (eq_by_cmp op_cmp q) ops) (nil_from_length (set.members s) (sym (len-members s) ∙ none))

-- it adds nothing
none_added : (s t : SetBy op_cmp) → set.len t ≡ 0 → s ≡ set.union s t
none_added s t none = same_set op_total op_exact s (set.union s t) (λ q.
    sym (contains-union op_total s t q ∙ ap (λ b. set.contains s q || b) (lacks t none q) ∙ or-false (set.contains s q)))

-- nothing and two sets are the two sets
pub both_added : (none one two first second : SetBy op_cmp) → none ≡ set.empty → one ≡ set.union none first → two ≡ set.union one second
    → two ≡ set.union first second
both_added none one two first second start with_first with_both =
    with_both ∙ ap (λ s. set.union s second) (with_first ∙ ap (λ s. set.union s first) start
    ∙ union_comm op_total op_exact set.empty first ∙ sym (none_added first set.empty (len-empty op_cmp)))

module _ {K : Type 0} (custody : Custody K) (over : WorldOver K) where
  -- ---- what one node has published

  pub tells_running : (number : ℕ) (n : NodeOver K) → Some n ≡ map.get over.nodes number → IsRunning n.node.state
      → (w : World) (s : KeptNode) → MayBe custody over w → IsAt w number s → Tells w number (text (registry_of (map.get over.nodes number))) w
  tells_running number n at running w s is _ =
      let stands = there custody over w number n (sym at) is in
      subst (λ ops. Tells w number (text ops) w) (sym (ap registry_of (sym at) ∙ lends n.node.state (set.of_list n.node.published) running))
      (subst (λ (m : NodeState). Tells w number (text (set.of_list m.published)) w) stands.same
      (Tells.running stands.at (subst (λ (m : NodeState). IsRunning m.state) (sym stands.same) running)))

  pub tells_stopped : (number : ℕ) (n : NodeOver K) (fault : Fault) (r : Response) → Some n ≡ map.get over.nodes number
      → NotRunning n.node.state fault → r ≡ response.Reply (Refused fault)
      → (w : World) (s : KeptNode) → MayBe custody over w → IsAt w number s → Tells w number (shown over r) w
  tells_stopped number n fault r at stopped e w s is _ =
      let stands = there custody over w number n (sym at) is in
      subst (λ r. Tells w number (shown over r) w) (sym e)
      (Tells.stopped stands.at (subst (λ (m : NodeState). NotRunning m.state fault) (sym stands.same) stopped))

  -- ---- what two nodes have published

  pub unites_running : (first second : ℕ) (n m : NodeOver K) (all : SetBy op_cmp)
      → Some n ≡ map.get over.nodes first → Some m ≡ map.get over.nodes second → IsRunning n.node.state → IsRunning m.node.state
      → all ≡ set.union (set.of_list n.node.published) (set.of_list m.node.published)
      → (w : World) (s t : KeptNode) → MayBe custody over w → IsAt w first s → IsAt w second t
      → Unites w first second (text all) w
  unites_running first second n m all at at' running running' both w s t is _ _ =
      let stands = there custody over w first n (sym at) is in
      let stands' = there custody over w second m (sym at') is in
      let texts : all ≡ set.union (set.of_list stands.s.node.published) (set.of_list stands'.s.node.published) =
      both ∙ ap (λ (x : NodeState). set.union (set.of_list x.published) (set.of_list m.node.published)) (sym stands.same)
      ∙ ap (λ (x : NodeState). set.union (set.of_list stands.s.node.published) (set.of_list x.published)) (sym stands'.same) in
      subst (λ ops. Unites w first second (text ops) w) (sym texts)
      (Unites.running stands.at stands'.at (subst (λ (x : NodeState). IsRunning x.state) (sym stands.same) running)
      (subst (λ (x : NodeState). IsRunning x.state) (sym stands'.same) running'))

  pub unites_starved : (first second : ℕ) (n m : NodeOver K) (r : Response)
      → Some n ≡ map.get over.nodes first → Some m ≡ map.get over.nodes second → IsRunning n.node.state → IsRunning m.node.state
      → (0 < length n.node.published) ⊎ (0 < length m.node.published) → r ≡ response.Reply starved
      → (w : World) (s t : KeptNode) → MayBe custody over w → IsAt w first s → IsAt w second t
      → Unites w first second (shown over r) w
  unites_starved first second n m r at at' running running' some is_starved w s t is _ _ =
      let stands = there custody over w first n (sym at) is in
      let stands' = there custody over w second m (sym at') is in
      let published : (0 < length stands.s.node.published) ⊎ (0 < length stands'.s.node.published) = elim some [
        | inl h ↦ inl (subst (λ (x : NodeState). 0 < length x.published) (sym stands.same) h)
        | inr h ↦ inr (subst (λ (x : NodeState). 0 < length x.published) (sym stands'.same) h)
      ] in
      subst (λ r. Unites w first second (shown over r) w) (sym is_starved)
      (Unites.no_room stands.at stands'.at (subst (λ (x : NodeState). IsRunning x.state) (sym stands.same) running)
      (subst (λ (x : NodeState). IsRunning x.state) (sym stands'.same) running') published)

  pub unites_stopped : (first second number : ℕ) (n : NodeOver K) (fault : Fault) (r : Response)
      → (number ≡ first) ⊎ (number ≡ second) → Some n ≡ map.get over.nodes number
      → NotRunning n.node.state fault → r ≡ response.Reply (Refused fault)
      → (w : World) (s t : KeptNode) → MayBe custody over w → IsAt w first s → IsAt w second t
      → Unites w first second (shown over r) w
  unites_stopped first second number n fault r which at stopped e w s t is _ _ =
      let stands = there custody over w number n (sym at) is in
      subst (λ r. Unites w first second (shown over r) w) (sym e)
      (Unites.stopped which stands.at (subst (λ (m : NodeState). NotRunning m.state fault) (sym stands.same) stopped))

  -- ---- what a packet would bring

  pub checks_bad : (number : ℕ) (bytes : List ℕ) (fault : ReadFault) (place at : ℕ)
      → IsFaultOrMemory (packet_fields bytes) (packet_kept bytes) fault → fault ≡ BadPacket place → place ≡ at
      → (w : World) (s : KeptNode) → MayBe custody over w → IsAt w number s → ChecksAt w number bytes (bad_packet at) w
  checks_bad number bytes fault place at bad is same w s _ _ =
      subst (λ at. ChecksAt w number bytes (bad_packet at) w) same
      (ChecksAt.no_packet (subst (IsFaultOrMemory (packet_fields bytes) (packet_kept bytes)) is bad))

  pub checks_starved : (number : ℕ) (bytes : List ℕ) (fault : ReadFault) (r : Response)
      → IsFaultOrMemory (packet_fields bytes) (packet_kept bytes) fault → fault ≡ Memory → r ≡ response.Reply starved
      → (w : World) (s : KeptNode) → MayBe custody over w → IsAt w number s → ChecksAt w number bytes (shown over r) w
  checks_starved number bytes fault r bad is e w s _ _ =
      let wants = subst (IsFaultOrMemory (packet_fields bytes) (packet_kept bytes)) is bad in
      subst (λ r. ChecksAt w number bytes (shown over r) w) (sym e) (ChecksAt.no_room wants.0 wants.1)

  pub checks_tells : (number : ℕ) (bytes : List ℕ) (n : NodeOver K) (packet : Packet) (count : ℕ) (check : Check)
      → Some n ≡ map.get over.nodes number → Spells bytes packet → Checks n.node packet (Ok count) → check ≡ counted packet count
      → (w : World) (s : KeptNode) → MayBe custody over w → IsAt w number s → ChecksAt w number bytes (checked check) w
  checks_tells number bytes n packet count check at spelled checks e w s is _ =
      let stands = there custody over w number n (sym at) is in
      subst (λ check. ChecksAt w number bytes (checked check) w) (sym e)
      (ChecksAt.tells stands.at spelled (subst (λ m. Checks m packet (Ok count)) (sym stands.same) checks))

  pub checks_refuses : (number : ℕ) (bytes : List ℕ) (n : NodeOver K) (packet : Packet) (fault : Fault) (r : Response)
      → Some n ≡ map.get over.nodes number → Spells bytes packet → Checks n.node packet (Err fault) → r ≡ response.Reply (Refused fault)
      → (w : World) (s : KeptNode) → MayBe custody over w → IsAt w number s → ChecksAt w number bytes (shown over r) w
  checks_refuses number bytes n packet fault r at spelled checks e w s is _ =
      let stands = there custody over w number n (sym at) is in
      subst (λ r. ChecksAt w number bytes (shown over r) w) (sym e)
      (ChecksAt.refuses stands.at spelled (subst (λ m. Checks m packet (Err fault)) (sym stands.same) checks))
