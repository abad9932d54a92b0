-- What is responded to packets that come.
use Rattle.std.proofs.Common.{◌≡◌, ◌≢◌, ◌⊎◌, ◌<◌, ◌∙◌, refl, sym, ap, subst, inl, inr, arith}
use Rattle.std.proofs.Common.{ℕ, zero, suc, Bool, true, false, IsTrue, List, [], ◌∷◌, length, take}
use Rattle.std.proofs.Common.{Option, None, Some, Ok, Err}
use Rattle.fl_labels.specs.SetBy.{SetBy}
use Rattle.fl_labels.specs.declared.name.Name.{Name}
use Rattle.fl_ops.specs.OpOrder.{op_cmp}
use Rattle.fl_seal.specs.declared.seal.Key.{Key}
use Rattle.fl_gossip.specs.Meeting.{FindsLeast}
use Rattle.fl_opset.specs.declared.intervals.Intervals.{Intervals}
use Rattle.fl_wire.specs.declared.fault.ReadFault.{ReadFault}
use Rattle.fl_wire.specs.declared.fault.ReadFault.TheVariants.{BadPacket, Memory}
use Rattle.fl_wire.specs.declared.packet.Packet.{Packet}
use Rattle.fl_wire.specs.declared.packet.Packet.TheVariants as packets
use Rattle.fl_message.specs.declared.message.Data.{Data}
use Rattle.fl_store.specs.Custody.{Custody}
use Rattle.fl_node.specs.Checking.{AreRefused, Checks, Counts}
use Rattle.fl_node.specs.Over.{NodeOver}
use Rattle.fl_system.specs.declared.admission.Admission.{Admission}
use Rattle.fl_system.specs.declared.admission.Party.{Party}
use Rattle.fl_system.specs.declared.answer.Fault.{Fault}
use Rattle.fl_system.specs.declared.answer.Fault.TheVariants.{Impostor, KeeperFailed}
use Rattle.fl_system.specs.declared.reply.Reply.{Reply}
use Rattle.fl_system.specs.declared.reply.Reply.TheVariants.{Refused}
use Rattle.fl_system.specs.declared.state.State.{State}
use Rattle.fl_system.specs.declared.state.State.TheVariants.{Running, Stopped}
use Rattle.fl_system.specs.State.{NodeState}
use Rattle.fl_system.specs.Waiting.{NotRunning}
use Rattle.fl_system.specs.World.{KeptNode}
use Rattle.fl_calls.specs.Answer as says
use Rattle.fl_calls.specs.Calls.{brings_ops, counted}
use Rattle.fl_calls.specs.Completing.{starved}
use Rattle.fl_machine_model.specs.Acts.{Outcome, Receive, Replies, Saying, Sends}
use Rattle.fl_machine_model.specs.Alone.{MachineStep, MessageAlone, PacketAlone}
use Rattle.fl_machine_turns.specs.Answer.{Answer, answered, answered_of, bad_line, status_of}
use Rattle.fl_machine_turns.specs.Answer as answers
use Rattle.fl_machine_turns.specs.Coming.{BeginsToTake, IsCheck, LeastNotOurs, Takes, unread_line}
use Rattle.fl_machine_turns.specs.Completing.{Begins, Completes, says_begun}
use Rattle.fl_machine_turns.specs.Saying.{Says}
use Rattle.fl_machine_turns.specs.Settings.{settings_of}
use Rattle.fl_machine_turns.specs.Turn.{Tells}
use Rattle.fl_machine_calls.specs.Going.{DoesAlone, GoesAlone, IsSameNode}
use Rattle.fl_machine_calls.specs.Saying.{AnswersFront, arrivals}
use Rattle.fl_sealed_packets.specs.Coming.{Brings, IsUnread}
use Rattle.fl_sealed_packets.specs.Ours.{IsNotOurs}
use Rattle.fl_machine.specs.Shown.{Shows, status_said}
use Rattle.fl_machine.specs.parts.Responding.{Responds, ShowsSaying}
use Rattle.fl_machine.specs.declared.response.Response.{Response}
use Rattle.fl_machine.specs.declared.response.Response.TheVariants as response
use Rattle.fl_machine.proofs.Responses.{as_before, begins_so, ends_so, leads, none_done, says_so}
use Rattle.fl_machine.proofs.Statuses.{arrival_three, no_three, one_is_not_three, refused_three}
use Rattle.fl_machine.proofs.Statuses.{reply_three, said_three, same_status}

-- ---- packets that are sent

-- there is no room for the bytes of some
pub told_no_room : {keys : List Key} {n : NodeState} (packets : List Packet) → 0 < length packets
    → ShowsSaying keys n answered (Sends packets) (response.Reply starved)
told_no_room [] some = absurd (omega (arith, some))
told_no_room (packet ∷ packets) some = ShowsSaying.no_room refl

none_taken : {A : Type 0} (most : ℕ) → take {A = A} most [] ≡ []
none_taken zero = refl
none_taken (suc most) = refl

-- the first packets that a window is answered are told, and are so much of the whole answer
front_shown : {keys : List Key} {n : NodeState} {r : Response} (shown : Saying → Answer) (most : ℕ)
    (whole front : List Packet) → shown (Sends whole) ≡ answers.told (take most whole)
    → front ≡ take most whole → ShowsSaying keys n answered (Sends front) r
    → ShowsSaying keys n shown (Sends whole) r
front_shown {keys} {n} {r} shown most whole front is first (ShowsSaying.as_said shows) =
    ShowsSaying.as_said (subst (λ a. Shows keys n r a) (ap answers.told first ∙ sym is) shows)
front_shown shown most [] front is first (ShowsSaying.no_room e) =
    let none = none_taken {A = Packet} most in absurd (cc)
front_shown shown most (packet ∷ packets) front is first (ShowsSaying.no_room e) =
    ShowsSaying.no_room refl

-- a packet that is a window or a message brings no operations
pub no_ops : (packet : Packet)
    → ((window : Intervals) × (packet ≡ packets.Have window))
    ⊎ ((d : Data) × (packet ≡ packets.Data d)) → brings_ops packet ≡ false
no_ops packet (inl is) = ap brings_ops is.1
no_ops packet (inr is) = ap brings_ops is.1

pub none_of : {A : Type 0} (o : Option A) → ((x : A) → o ≡ Some x → ⊥) → o ≡ None
none_of None other = refl
none_of (Some x) other = absurd (other x refl)

-- ---- faults that are none of a keeper

pub not_running : (state : State) (fault : Fault) → NotRunning state fault → fault ≢ KeeperFailed
not_running (Running pending) fault why e = absurd why
not_running (Stopped doubt) fault why e = cc

are_refused : {n : NodeState} {ops : SetBy op_cmp} {fault : Fault} → AreRefused n ops fault
    → fault ≢ KeeperFailed
are_refused (AreRefused.no_room new) e = cc
are_refused (AreRefused.impostor first is) e = cc
are_refused (AreRefused.clash first is) e = cc

counts_fault : {n : NodeState} {ops : SetBy op_cmp} {fault : Fault} → Counts n ops (Err fault)
    → fault ≢ KeeperFailed
counts_fault (Counts.refused why) e = are_refused why e

checks_fault : {n : NodeState} {packet : Packet} {fault : Fault} → Checks n packet (Err fault)
    → fault ≢ KeeperFailed
checks_fault {n} {fault = fault} (Checks.stopped why) e = not_running n.state fault why e
checks_fault (Checks.full running counts) e = counts_fault counts e
checks_fault (Checks.delta running counts) e = counts_fault counts e
checks_fault (Checks.no_room running some) e = cc

unread_three : (fault : ReadFault) → status_of (unread_line fault) ≡ 3 → ⊥
unread_three (BadPacket place) e = no_three e
unread_three Memory e = no_three e

-- ---- a message begins nothing

message_ends : {n n' : NodeState} {sender : Option Party} {d : Data} {reply : Reply}
    {admitted : List Admission} → MessageAlone n sender d reply n' admitted
    → says_begun (Replies reply) ≡ false
message_ends (MessageAlone.arrives does) = refl
message_ends (MessageAlone.refused does) = refl
message_ends (MessageAlone.no_room running) = refl

packet_ends : {number : ℕ} {s : KeptNode} {packet : Packet} {d : Data} {o : Outcome}
    → PacketAlone number s packet o → packet ≡ packets.Data d → says_begun o.says ≡ false
packet_ends (PacketAlone.have is does) e = absurd (cc)
packet_ends (PacketAlone.ops (inl is) does) e = absurd (cc)
packet_ends (PacketAlone.ops (inr is) does) e = absurd (cc)
packet_ends (PacketAlone.message is does) e = message_ends (does None)

step_ends : {number : ℕ} {s : KeptNode} {d : Data} {o : Outcome}
    → MachineStep number s (Receive (packets.Data d)) o → says_begun o.says ≡ false
step_ends (MachineStep.receive does) = packet_ends does refl

-- ---- what operations are answered

ours_of_ops : (number : ℕ) (s : KeptNode) (packet : Packet) → brings_ops packet ≡ true
    → LeastNotOurs number s packet None
ours_of_ops number s (packets.Full batch) ops = refl
ours_of_ops number s (packets.Have window) ops = absurd (cc)
ours_of_ops number s (packets.Delta batch) ops = refl
ours_of_ops number s (packets.Data d) ops = refl

ops_answer : (packet : Packet) (reply : Reply) → brings_ops packet ≡ true
    → answered_of packet (Replies reply) ≡ answers.said (says.replied reply)
ops_answer (packets.Full batch) reply ops = refl
ops_answer (packets.Have window) reply ops = refl
ops_answer (packets.Delta batch) reply ops = refl
ops_answer (packets.Data d) reply ops = absurd (cc)

ops_shown : {keys : List Key} {n : NodeState} (packet : Packet) (reply : Reply)
    → brings_ops packet ≡ true
    → ShowsSaying keys n (answered_of packet) (Replies reply) (response.Reply reply)
ops_shown {keys} {n} packet reply ops =
    ShowsSaying.as_said (subst (λ a. Shows keys n (response.Reply reply) a)
    (sym (ops_answer packet reply ops)) Shows.replied)

-- a message that is not refused is answered as any act
pub others_shown : {keys : List Key} {n : NodeState} (d : Data) (reply : Reply)
    → ((fault : Fault) → reply ≢ Refused fault)
    → Shows keys n (response.Reply reply) (answered_of (packets.Data d) (Replies reply))
others_shown d (Refused fault) other = absurd (other fault refl)
others_shown d reply other = Shows.replied

-- ---- of a node that is only looked at

module _ {K : Type 0} (custody : Custody K) (x : NodeOver K) (keys : List Key) (guards : Bool)
    (bytes : List ℕ) where
  pub takes_none : (fault : ReadFault) (r : Response) → IsUnread keys bytes fault
      → Shows keys x.node r (unread_line fault)
      → Responds custody keys x
      (λ s. Takes (settings_of x.node.number keys guards) s bytes (Completes x.node.number s)) r 0 x
  takes_none fault r why shows =
      none_done custody x keys _ r (unread_line fault) shows (λ k. Takes.unread why)
      (λ three. unread_three fault (sym (same_status shows) ∙ three))

  pub begins_none : (fault : ReadFault) (r : Response) → IsUnread keys bytes fault
      → Shows keys x.node r (unread_line fault)
      → Responds custody keys x
      (λ s. BeginsToTake (settings_of x.node.number keys guards) s bytes (Begins x.node.number s)) r
      0 x
  begins_none fault r why shows =
      none_done custody x keys _ r (unread_line fault) shows (λ k. BeginsToTake.unread why)
      (λ three. unread_three fault (sym (same_status shows) ∙ three))

  pub begins_no_ops : (packet : Packet) → Brings keys bytes packet → brings_ops packet ≡ false
      → Responds custody keys x
      (λ s. BeginsToTake (settings_of x.node.number keys guards) s bytes (Begins x.node.number s))
      response.Unknown 0 x
  begins_no_ops packet brings none =
      none_done custody x keys _ response.Unknown bad_line Shows.unknown
      (λ k. BeginsToTake.no_ops brings none) one_is_not_three

  pub checks_none : (fault : ReadFault) (r : Response) → IsUnread keys bytes fault
      → Shows keys x.node r (unread_line fault)
      → Responds custody keys x
      (λ s. Tells s (IsCheck (settings_of x.node.number keys guards) s bytes)) r 0 x
  checks_none fault r why shows =
      none_done custody x keys _ r (unread_line fault) shows
      (λ k. record { told = IsCheck.unread why; did_none = refl; same = refl })
      (λ three. unread_three fault (sym (same_status shows) ∙ three))

  pub checks_some : (packet : Packet) (count : ℕ) → Brings keys bytes packet
      → Checks x.node packet (Ok count)
      → Responds custody keys x
      (λ s. Tells s (IsCheck (settings_of x.node.number keys guards) s bytes))
      (response.Checked (counted packet count)) 0 x
  checks_some packet count brings checks =
      none_done custody x keys _ _ (answers.said (says.checked (counted packet count)))
      Shows.checked
      (λ k. record { told = IsCheck.tells brings checks; did_none = refl; same = refl }) no_three

  pub checks_not : (packet : Packet) (fault : Fault) → Brings keys bytes packet
      → Checks x.node packet (Err fault)
      → Responds custody keys x
      (λ s. Tells s (IsCheck (settings_of x.node.number keys guards) s bytes))
      (response.Reply (Refused fault)) 0 x
  checks_not packet fault brings checks =
      none_done custody x keys _ _ (answers.said (says.replied (Refused fault))) Shows.replied
      (λ k. record { told = IsCheck.refuses brings checks; did_none = refl; same = refl })
      (refused_three fault (checks_fault checks))

  module _ (window : Intervals) (brings : Brings keys bytes (packets.Have window)) where
    pub refuses_window : (name : Name)
        → FindsLeast (IsNotOurs x.node.number x.node.saved window) (Some name)
        → Responds custody keys x
        (λ s. Takes (settings_of x.node.number keys guards) s bytes (Completes x.node.number s))
        (response.Reply (Refused (Impostor name))) 0 x
    refuses_window name least =
        none_done custody x keys _ _ (answers.said (says.replied (Refused (Impostor name))))
        Shows.replied
        (λ k. Takes.not_ours brings least) no_three

    module _ (ours : FindsLeast (IsNotOurs x.node.number x.node.saved window) None) where
      takes_window : (r : Response) (saying : Saying)
          → ShowsSaying keys x.node (answered_of (packets.Have window)) saying r
          → says_begun saying ≡ false
          → GoesAlone custody x (Receive (packets.Have window)) 0 saying x
          → (status_said r ≡ 3 → ⊥)
          → Responds custody keys x
          (λ s. Takes (settings_of x.node.number keys guards) s bytes (Completes x.node.number s)) r
          0 x
      takes_window r saying shows nothing goes other =
          leads custody x x keys r 0
          (λ s. Says (answered_of (packets.Have window))
          (Completes x.node.number s (Receive (packets.Have window))))
          (λ s. Takes (settings_of x.node.number keys guards) s bytes (Completes x.node.number s))
          (λ k k' ds answer h. Takes.comes brings ours h)
          (says_so custody x x keys r 0 (answered_of (packets.Have window))
          (λ s. Completes x.node.number s (Receive (packets.Have window))) saying shows
          (ends_so custody x x (Receive (packets.Have window)) 0 saying (λ s s' may. nothing) goes)
          (as_before x.node) (λ three. absurd (other three)))

      pub answers_window : (front : List Packet) (r : Response)
          → AnswersFront custody x window 64 front
          → ShowsSaying keys x.node answered (Sends front) r
          → Responds custody keys x
          (λ s. Takes (settings_of x.node.number keys guards) s bytes (Completes x.node.number s)) r
          0 x
      answers_window front r a shows =
          takes_window r (Sends a.whole)
          (front_shown (answered_of (packets.Have window)) 64 a.whole front refl a.first shows) refl
          a.goes
          (λ three. no_three (said_three shows three))

      pub answers_fault : (fault : Fault) → fault ≢ KeeperFailed
          → GoesAlone custody x (Receive (packets.Have window)) 0 (Replies (Refused fault)) x
          → Responds custody keys x
          (λ s. Takes (settings_of x.node.number keys guards) s bytes (Completes x.node.number s))
          (response.Reply (Refused fault)) 0 x
      answers_fault fault other goes =
          takes_window (response.Reply (Refused fault)) (Replies (Refused fault))
          (ShowsSaying.as_said Shows.replied) refl goes
          (refused_three fault other)

-- ---- of a node that changes

module _ {K : Type 0} (custody : Custody K) (x y : NodeOver K) (keys : List Key) (guards : Bool)
    (bytes : List ℕ) where
  module _ (packet : Packet) (ops : brings_ops packet ≡ true) (brings : Brings keys bytes packet)
    where
      pub takes_ops : (reply : Reply)
          → DoesAlone custody x (λ s. Completes x.node.number s (Receive packet)) 0 (Replies reply)
          y → IsSameNode x.node y.node
          → (reply ≡ Refused KeeperFailed → IsTrue (custody.is_broken y.keeper))
          → Responds custody keys x
          (λ s. Takes (settings_of x.node.number keys guards) s bytes (Completes x.node.number s))
          (response.Reply reply) 0 y
      takes_ops reply done same cause =
          leads custody x y keys (response.Reply reply) 0
          (λ s. Says (answered_of packet) (Completes x.node.number s (Receive packet)))
          (λ s. Takes (settings_of x.node.number keys guards) s bytes (Completes x.node.number s))
          (λ k k' ds answer h. Takes.comes brings
          (ours_of_ops x.node.number (record { node = x.node; kept = k }) packet ops) h)
          (says_so custody x y keys (response.Reply reply) 0 (answered_of packet)
          (λ s. Completes x.node.number s (Receive packet)) (Replies reply)
          (ops_shown packet reply ops) done same
          (λ three. cause (reply_three reply three)))

      pub begins_ops : (reply : Reply)
          → GoesAlone custody x (Receive packet) 0 (Replies reply) y → IsSameNode x.node y.node
          → reply ≢ Refused KeeperFailed
          → Responds custody keys x
          (λ s. BeginsToTake (settings_of x.node.number keys guards) s bytes
          (Begins x.node.number s)) (response.Reply reply) 0 y
      begins_ops reply goes same other =
          leads custody x y keys (response.Reply reply) 0
          (λ s. Says (answered_of packet) (Begins x.node.number s (Receive packet)))
          (λ s. BeginsToTake (settings_of x.node.number keys guards) s bytes
          (Begins x.node.number s))
          (λ k k' ds answer h. BeginsToTake.comes brings ops h)
          (says_so custody x y keys (response.Reply reply) 0 (answered_of packet)
          (λ s. Begins x.node.number s (Receive packet)) (Replies reply)
          (ops_shown packet reply ops)
          (begins_so custody x y (Receive packet) 0 (Replies reply) goes) same
          (λ three. absurd (other (reply_three reply three))))

  pub takes_message : (d : Data) (reply : Reply) (r : Response) → Brings keys bytes (packets.Data d)
      → Shows keys y.node r (answered_of (packets.Data d) (Replies reply))
      → GoesAlone custody x (Receive (packets.Data d)) (arrivals reply) (Replies reply) y
      → IsSameNode x.node y.node → reply ≢ Refused KeeperFailed
      → Responds custody keys x
      (λ s. Takes (settings_of x.node.number keys guards) s bytes (Completes x.node.number s)) r
      (arrivals reply) y
  takes_message d reply r brings shows goes same other =
      leads custody x y keys r (arrivals reply)
      (λ s. Says (answered_of (packets.Data d))
      (Completes x.node.number s (Receive (packets.Data d))))
      (λ s. Takes (settings_of x.node.number keys guards) s bytes (Completes x.node.number s))
      (λ k k' ds answer h. Takes.comes brings refl h)
      (says_so custody x y keys r (arrivals reply) (answered_of (packets.Data d))
      (λ s. Completes x.node.number s (Receive (packets.Data d))) (Replies reply)
      (ShowsSaying.as_said shows)
      (ends_so custody x y (Receive (packets.Data d)) (arrivals reply) (Replies reply)
      (λ s s' may. sym (ap says_begun may.says) ∙ step_ends may.step) goes) same
      (λ three. absurd (other (arrival_three d reply (sym (same_status shows) ∙ three)))))
