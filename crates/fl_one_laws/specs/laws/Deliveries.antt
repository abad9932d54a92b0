-- What comes of a packet at a node is one thing.
use Rattle.std.proofs.Common.{◌≡◌, ◌≢◌, ◌⊎◌, ◌<◌, ◌∙◌, inl, inr, ℕ, List, [], ◌∷◌, length, refl, sym, ap, subst, arith, Ordering, Less, Equal, Greater, Result, Ok, Err}
use Rattle.std.specs.List.{Contains}
use Rattle.std.specs.Ordering.{ordering_reverse}
use Rattle.fl_labels.specs.Name.{name_cmp}
use Rattle.fl_labels.specs.NameOrder.{name_total, name_exact}
use Rattle.fl_labels.specs.SetBy as set
use Rattle.fl_labels.specs.SetBy.{SetBy, In}
use Rattle.fl_labels.specs.declared.name.Name.{Name}
use Rattle.fl_ops.specs.OpOrder.{op_cmp}
use Rattle.fl_ops.specs.OpLaws.{op_total, op_exact}
use Rattle.fl_ops.specs.declared.op.Op.{Op}
use Rattle.fl_opset.specs.laws.Members.{listed_member}
use Rattle.fl_opset.specs.laws.Unions.{same_members}
use Rattle.fl_opset.specs.declared.intervals.Intervals.{Intervals}
use Rattle.fl_wire.specs.declared.packet.Packet.{Packet}
use Rattle.fl_wire.specs.declared.packet.Packet.TheVariants as packets
use Rattle.fl_message.specs.declared.message.Data.{Data}
use Rattle.fl_jobs.specs.declared.answer.Refusal.TheVariants.{Memory}
use Rattle.fl_system.specs.declared.answer.Fault.{Fault}
use Rattle.fl_system.specs.declared.answer.Fault.TheVariants.{Refused, Clash, Impostor}
use Rattle.fl_system.specs.declared.reply.Reply.{Reply}
use Rattle.fl_system.specs.declared.reply.Reply.TheVariants as replies
use Rattle.fl_system.specs.declared.sent.Sent.{Sent}
use Rattle.fl_system.specs.declared.state.Batch.TheVariants.{Received}
use Rattle.fl_system.specs.declared.state.Pending.TheVariants.{Nothing}
use Rattle.fl_system.specs.declared.state.State.{State}
use Rattle.fl_system.specs.declared.state.State.TheVariants.{Running}
use Rattle.fl_system.specs.State.{NodeState}
use Rattle.fl_system.specs.Begins.{pending_with}
use Rattle.fl_system.specs.Waiting.{IsRunning}
use Rattle.fl_system.specs.Processes.{process_of}
use Rattle.fl_system.specs.Receives.{Receives, IsImpostor, IsClash, IsFirstRefused, CanTake, AreLacking}
use Rattle.fl_system.specs.Audit.{message_entries}
use Rattle.fl_system.specs.World.{World, KeptNode, went}
use Rattle.fl_system.specs.WorldJobs.{next_packet}
use Rattle.fl_system.specs.Deliveries.{TellAt, WindowAt, BatchAt, MessageAt, DeliverAt, has_told}
use Rattle.fl_one_laws.specs.Ample.{IsAmple}
use Rattle.fl_one_laws.specs.laws.Tellings.{one_answer, one_summary}
use Rattle.fl_one_laws.specs.laws.Benches.{one_stop, not_both, one_taken, free, one_arrives}

-- ---- the least name

-- of two names that are not below each other
pub tied_names : (m n : Name) → name_cmp m n ≢ Less → name_cmp n m ≢ Less → m ≡ n
tied_names m n h k = name_exact m n (tied (name_cmp m n) (name_cmp n m) (name_total.antisymm m n) h k)
  where
    tied : (o p : Ordering) → o ≡ ordering_reverse p → o ≢ Less → p ≢ Less → o ≡ Equal
    tied Less p e h k = absurd (h refl)
    tied Equal p e h k = refl
    tied Greater Less e h k = absurd (k refl)
    tied Greater Equal e h k = absurd (cc)
    tied Greater Greater e h k = absurd (cc)

-- ---- operations that come to a node

runs_idle : {state : State} → state ≡ Running Nothing → IsRunning state
runs_idle e = subst IsRunning (sym e) tt

-- a set that has something has a member
some_member : (s : SetBy op_cmp) → 0 < set.len s → (op : Op) × In s op
some_member s some = by_list (set.members s) refl (omega (arith, some, set.len-members s))
  where
    by_list : (ops : List Op) → set.members s ≡ ops → 0 < length ops → (op : Op) × In s op
    by_list [] is more = absurd (omega (arith, more))
    by_list (op ∷ ops) is more =
        (op, listed_member s op (subst (λ l. Contains l op) (sym is) (0, omega arith, refl)))

module _ (n : NodeState) (ops : SetBy op_cmp) where
  same_lacking : (a b : SetBy op_cmp) → AreLacking n ops a → AreLacking n ops b → a ≡ b
  same_lacking a b h k =
      same_members op_total op_exact a b (λ op. (λ i. (k op).1 ((h op).0 i), λ i. (h op).1 ((k op).0 i)))

  -- one operation is the first that may not be taken, by its name
  one_first : {x y : Op} → IsFirstRefused n ops x → IsFirstRefused n ops y → IsImpostor n x ⊎ IsClash n x
      → IsImpostor n y ⊎ IsClash n y → x.name ≡ y.name
  one_first {x} {y} h k bad worse =
      tied_names x.name y.name (k.least x h.member bad) (h.least y k.member worse)

  -- no operation of the name of an impostor is saved
  not_clash : {x y : Op} → x.name ≡ y.name → IsImpostor n x → IsClash n y → ⊥
  not_clash same h k = h.unknown k.other k.there (k.same_name ∙ sym same)

  refused_none : {x : Op} → CanTake n ops → IsFirstRefused n ops x → IsImpostor n x ⊎ IsClash n x → ⊥
  refused_none {x} can first (inl bad) = (can x first.member).0 bad
  refused_none {x} can first (inr bad) = (can x first.member).1 bad

  lacks : (new : SetBy op_cmp) → AreLacking n ops new → 0 < set.len new → ((op : Op) → In ops op → In n.saved op) → ⊥
  lacks new are some all =
      let (op, member) = some_member new some in
      let there = (are op).0 member in
      there.1 (all op there.0)

  pub one_receiving : {r s : Result ℕ Fault} {a b : NodeState} → Receives n ops r a → Receives n ops s b
      → r ≢ Err (Refused Memory) → s ≢ Err (Refused Memory) → (r ≡ s) × (a ≡ b)
  one_receiving (Receives.no_room runs some) k p q = absurd (p refl)
  one_receiving h (Receives.no_room runs some) p q = absurd (q refl)
  one_receiving (Receives.stopped {fault} why) (Receives.stopped {fault = other} because) p q =
      (ap Err (one_stop n.state fault other why because), refl)
  one_receiving (Receives.stopped {fault} why) (Receives.impostor runs first bad) p q = absurd (not_both n.state fault runs why)
  one_receiving (Receives.stopped {fault} why) (Receives.clash runs first bad) p q = absurd (not_both n.state fault runs why)
  one_receiving (Receives.stopped {fault} why) (Receives.nothing_new runs can all) p q = absurd (not_both n.state fault runs why)
  one_receiving (Receives.stopped {fault} why) (Receives.taken op runs can there new busy) p q = absurd (not_both n.state fault runs why)
  one_receiving (Receives.stopped {fault} why) (Receives.receives idle can are some) p q = absurd (not_both n.state fault (runs_idle idle) why)
  one_receiving (Receives.impostor runs first bad) (Receives.stopped {fault} why) p q = absurd (not_both n.state fault runs why)
  one_receiving (Receives.clash runs first bad) (Receives.stopped {fault} why) p q = absurd (not_both n.state fault runs why)
  one_receiving (Receives.nothing_new runs can all) (Receives.stopped {fault} why) p q = absurd (not_both n.state fault runs why)
  one_receiving (Receives.taken op runs can there new busy) (Receives.stopped {fault} why) p q = absurd (not_both n.state fault runs why)
  one_receiving (Receives.receives idle can are some) (Receives.stopped {fault} why) p q = absurd (not_both n.state fault (runs_idle idle) why)
  one_receiving (Receives.impostor runs first bad) (Receives.impostor runs' first' bad') p q =
      (ap (λ name. Err (Impostor name)) (one_first first first' (inl bad) (inl bad')), refl)
  one_receiving (Receives.impostor runs first bad) (Receives.clash runs' first' bad') p q =
      absurd (not_clash (one_first first first' (inl bad) (inr bad')) bad bad')
  one_receiving (Receives.clash runs first bad) (Receives.impostor runs' first' bad') p q =
      absurd (not_clash (one_first first' first (inl bad') (inr bad)) bad' bad)
  one_receiving (Receives.clash runs first bad) (Receives.clash runs' first' bad') p q =
      (ap (λ name. Err (Clash name)) (one_first first first' (inr bad) (inr bad')), refl)
  one_receiving (Receives.impostor runs first bad) (Receives.nothing_new runs' can all) p q = absurd (refused_none can first (inl bad))
  one_receiving (Receives.impostor runs first bad) (Receives.taken op runs' can there new busy) p q = absurd (refused_none can first (inl bad))
  one_receiving (Receives.impostor runs first bad) (Receives.receives idle can are some) p q = absurd (refused_none can first (inl bad))
  one_receiving (Receives.clash runs first bad) (Receives.nothing_new runs' can all) p q = absurd (refused_none can first (inr bad))
  one_receiving (Receives.clash runs first bad) (Receives.taken op runs' can there new busy) p q = absurd (refused_none can first (inr bad))
  one_receiving (Receives.clash runs first bad) (Receives.receives idle can are some) p q = absurd (refused_none can first (inr bad))
  one_receiving (Receives.nothing_new runs' can all) (Receives.impostor runs first bad) p q = absurd (refused_none can first (inl bad))
  one_receiving (Receives.taken op runs' can there new busy) (Receives.impostor runs first bad) p q = absurd (refused_none can first (inl bad))
  one_receiving (Receives.receives idle can are some) (Receives.impostor runs first bad) p q = absurd (refused_none can first (inl bad))
  one_receiving (Receives.nothing_new runs' can all) (Receives.clash runs first bad) p q = absurd (refused_none can first (inr bad))
  one_receiving (Receives.taken op runs' can there new busy) (Receives.clash runs first bad) p q = absurd (refused_none can first (inr bad))
  one_receiving (Receives.receives idle can are some) (Receives.clash runs first bad) p q = absurd (refused_none can first (inr bad))
  one_receiving (Receives.nothing_new runs can all) (Receives.nothing_new runs' can' all') p q = (refl, refl)
  one_receiving (Receives.nothing_new runs can all) (Receives.taken op runs' can' there new busy) p q = absurd (new (all op there))
  one_receiving (Receives.nothing_new runs can all) (Receives.receives {new} idle can' are some) p q = absurd (lacks new are some all)
  one_receiving (Receives.taken op runs can there new busy) (Receives.nothing_new runs' can' all) p q = absurd (new (all op there))
  one_receiving (Receives.receives {new} idle can are some) (Receives.nothing_new runs can' all) p q = absurd (lacks new are some all)
  one_receiving (Receives.taken op {fault} runs can there new busy) (Receives.taken op' {fault = other} runs' can' there' new' busy') p q =
      (ap Err (one_taken n.state fault other busy busy'), refl)
  one_receiving (Receives.taken op {fault} runs can there new busy) (Receives.receives idle can' are some) p q = absurd (free fault idle busy)
  one_receiving (Receives.receives idle can are some) (Receives.taken op {fault} runs can' there new busy) p q = absurd (free fault idle busy)
  one_receiving (Receives.receives {new = x} idle can are some) (Receives.receives {new = y} idle' can' are' some') p q =
      let same = same_lacking x y are are' in
      (ap (λ new. Ok (set.len new)) same, ap (λ new. pending_with n (Received new)) same)

-- ---- at a world

module _ (w : World) (number : ℕ) (s : KeptNode) where
  told_same : (a b : List Packet) → a ≡ b
      → (replies.Sent (next_packet w) (length a) ≡ replies.Sent (next_packet w) (length b))
      × (has_told w number a ≡ has_told w number b)
  told_same a b e = (ap (λ l. replies.Sent (next_packet w) (length l)) e, ap (has_told w number) e)

  pub one_tell : {r r' : Reply} {a b : World} → TellAt w number s r a → TellAt w number s r' b → IsAmple r
      → IsAmple r' → (r ≡ r') × (a ≡ b)
  one_tell (TellAt.no_room runs) k p q = absurd (p.memory refl)
  one_tell h (TellAt.no_room runs) p q = absurd (q.memory refl)
  one_tell (TellAt.stopped {fault} why) (TellAt.stopped {fault = other} because) p q =
      (ap replies.Refused (one_stop s.node.state fault other why because), refl)
  one_tell (TellAt.stopped {fault} why) (TellAt.tells runs are) p q = absurd (not_both s.node.state fault runs why)
  one_tell (TellAt.tells runs are) (TellAt.stopped {fault} why) p q = absurd (not_both s.node.state fault runs why)
  one_tell (TellAt.tells {told = x} runs are) (TellAt.tells {told = y} runs' are') p q =
      told_same x y (one_summary s.node.saved x y are are')

  one_window : (window : Intervals) {r r' : Reply} {a b : World} → WindowAt w number s window r a
      → WindowAt w number s window r' b → IsAmple r → IsAmple r' → (r ≡ r') × (a ≡ b)
  one_window window (WindowAt.no_room runs some) k p q = absurd (p.memory refl)
  one_window window h (WindowAt.no_room runs some) p q = absurd (q.memory refl)
  one_window window (WindowAt.stopped {fault} why) (WindowAt.stopped {fault = other} because) p q =
      (ap replies.Refused (one_stop s.node.state fault other why because), refl)
  one_window window (WindowAt.stopped {fault} why) (WindowAt.answers runs are) p q = absurd (not_both s.node.state fault runs why)
  one_window window (WindowAt.answers runs are) (WindowAt.stopped {fault} why) p q = absurd (not_both s.node.state fault runs why)
  one_window window (WindowAt.answers {told = x} runs are) (WindowAt.answers {told = y} runs' are') p q =
      told_same x y (one_answer s.node.saved window x y are are')

  -- what a receiving comes to
  abbrev comes_to : Result ℕ Fault → Reply → Type 0
  comes_to (Ok count) r = ((count ≡ 0) × (r ≡ replies.Took 0)) ⊎ ((0 < count) × (r ≡ replies.Taking count))
  comes_to (Err fault) r = r ≡ replies.Refused fault

  record Comes (ops : SetBy op_cmp) (r : Reply) (a : World) : Type 0 where
    result : Result ℕ Fault
    after : NodeState
    does : Receives s.node ops result after
    answers : comes_to result r
    leaves : a ≡ went w number after s.kept [] []

  as_coming : (ops : List Op) {r : Reply} {a : World} → BatchAt w number s ops r a → Comes (set.of_list ops) r a
  as_coming ops (BatchAt.nothing_new {n} does) =
      record { result = Ok 0; after = n; does = does; answers = inl (refl, refl); leaves = refl }
  as_coming ops (BatchAt.takes {count} {n} does some) =
      record { result = Ok count; after = n; does = does; answers = inr (some, refl); leaves = refl }
  as_coming ops (BatchAt.refused {fault} {n} does) =
      record { result = Err fault; after = n; does = does; answers = refl; leaves = refl }

  one_said : (result : Result ℕ Fault) {r r' : Reply} → comes_to result r → comes_to result r' → r ≡ r'
  one_said (Err fault) h k = h ∙ sym k
  one_said (Ok count) (inl h) (inl k) = h.1 ∙ sym k.1
  one_said (Ok count) (inl h) (inr k) = absurd (omega (arith, h.0, k.0))
  one_said (Ok count) (inr h) (inl k) = absurd (omega (arith, h.0, k.0))
  one_said (Ok count) (inr h) (inr k) = h.1 ∙ sym k.1

  ample_receiving : (result : Result ℕ Fault) {r : Reply} → comes_to result r → IsAmple r
      → result ≢ Err (Refused Memory)
  ample_receiving result {r} h p e = p.memory (subst (λ x. comes_to x r) e h)

  one_batch : (ops : List Op) {r r' : Reply} {a b : World} → BatchAt w number s ops r a → BatchAt w number s ops r' b
      → IsAmple r → IsAmple r' → (r ≡ r') × (a ≡ b)
  one_batch ops {r} {r'} h k p q =
      let x = as_coming ops h in
      let y = as_coming ops k in
      let one = one_receiving s.node (set.of_list ops) y.does x.does (ample_receiving y.result y.answers q) (ample_receiving x.result x.answers p) in (
        one_said x.result x.answers (subst (λ result. comes_to result r') one.0 y.answers),
        x.leaves ∙ ap (λ n. went w number n s.kept [] []) (sym one.1) ∙ sym y.leaves,
      )

  one_message : {sent : Sent} {d : Data} {r r' : Reply} {a b : World} → MessageAt w number s sent d r a
      → MessageAt w number s sent d r' b → IsAmple r → IsAmple r' → (r ≡ r') × (a ≡ b)
  one_message (MessageAt.no_room runs) k p q = absurd (p.memory refl)
  one_message h (MessageAt.no_room runs) p q = absurd (q.memory refl)
  one_message {sent} {d} (MessageAt.arrives {reply} does) (MessageAt.arrives {reply = other} again) p q =
      let one = one_arrives does again (λ e. absurd (cc)) (λ e. absurd (cc)) in
      let said = one.0 in
      let same : reply ≡ other = cc in (
        ap replies.Job same,
        ap (λ n. went w number n s.kept [] (message_entries sent.sender d.receiver (process_of s.node d.receiver)))
            one.1,
      )
  one_message (MessageAt.arrives does) (MessageAt.refused again) p q =
      let said = (one_arrives does again (λ e. absurd (cc)) (λ e. q.memory (cc))).0 in absurd (cc)
  one_message (MessageAt.refused does) (MessageAt.arrives again) p q =
      let said = (one_arrives does again (λ e. p.memory (cc)) (λ e. absurd (cc))).0 in absurd (cc)
  one_message (MessageAt.refused {fault} does) (MessageAt.refused {fault = other} again) p q =
      let one = one_arrives does again (λ e. p.memory (cc)) (λ e. q.memory (cc)) in
      let said = one.0 in
      let same : fault ≡ other = cc in
      (ap replies.Refused same, ap (λ n. went w number n s.kept [] []) one.1)

  -- what the packet is
  abbrev AtPacket : (sent : Sent) → Packet → Reply → World → Type 0
  AtPacket sent (packets.Have window) r a = WindowAt w number s window r a
  AtPacket sent (packets.Full batch) r a = BatchAt w number s batch.ops r a
  AtPacket sent (packets.Delta batch) r a = BatchAt w number s batch.ops r a
  AtPacket sent (packets.Data d) r a = MessageAt w number s sent d r a

  at_packet : {sent : Sent} {r : Reply} {a : World} → DeliverAt w number s sent r a → AtPacket sent sent.packet r a
  at_packet {sent} {r} {a} (DeliverAt.have is h) = subst (λ p. AtPacket sent p r a) (sym is) h
  at_packet {sent} {r} {a} (DeliverAt.ops (inl is) h) = subst (λ p. AtPacket sent p r a) (sym is) h
  at_packet {sent} {r} {a} (DeliverAt.ops (inr is) h) = subst (λ p. AtPacket sent p r a) (sym is) h
  at_packet {sent} {r} {a} (DeliverAt.message is h) = subst (λ p. AtPacket sent p r a) (sym is) h

  one_packet : (sent : Sent) (packet : Packet) {r r' : Reply} {a b : World} → AtPacket sent packet r a
      → AtPacket sent packet r' b → IsAmple r → IsAmple r' → (r ≡ r') × (a ≡ b)
  one_packet sent (packets.Have window) h k p q = one_window window h k p q
  one_packet sent (packets.Full batch) h k p q = one_batch batch.ops h k p q
  one_packet sent (packets.Delta batch) h k p q = one_batch batch.ops h k p q
  one_packet sent (packets.Data d) h k p q = one_message {sent = sent} {d = d} h k p q

  pub one_delivery : {sent : Sent} {r r' : Reply} {a b : World} → DeliverAt w number s sent r a
      → DeliverAt w number s sent r' b → IsAmple r → IsAmple r' → (r ≡ r') × (a ≡ b)
  one_delivery {sent} h k p q = one_packet sent sent.packet (at_packet h) (at_packet k) p q
