-- What crews are brought, and what they tell.
use Rattle.std.proofs.Common.{◌≡◌, ◌∙◌, ℕ, Bool, true, false, List, refl, sym, ap, subst, Option, None, Some, IfNone}
use Rattle.fl_calls.specs.Answer.{shown_alone}
use Rattle.fl_calls.specs.Calls.{said_of}
use Rattle.fl_calls.specs.parts.Coming.{coming, is_message}
use Rattle.fl_calls.specs.declared.response.Response.{Response}
use Rattle.fl_calls.specs.declared.response.Response.TheVariants as response
use Rattle.fl_crew_calls.specs.Asking.{AnswersWindow, Comes, DeliversAt, TellsAt}
use Rattle.fl_crew_calls.specs.Over.{CrewsOver, IsCrewAt}
use Rattle.fl_crew_lines.specs.parts.Once.{ComesAt}
use Rattle.fl_node.specs.Telling.{AnswersNothing, TellsNothing}
use Rattle.fl_opset.specs.declared.intervals.Intervals.{Intervals}
use Rattle.fl_store.specs.Custody.{Custody}
use Rattle.fl_system.specs.Numbered.{item_at}
use Rattle.fl_system.specs.declared.answer.Fault.{Fault}
use Rattle.fl_system.specs.declared.answer.Fault.TheVariants.{Stopped}
use Rattle.fl_system.specs.declared.reply.Reply.{Reply}
use Rattle.fl_system.specs.declared.reply.Reply.TheVariants.{Job, Begun, Taking, Took, Published, Done, Booted, Sent, NoSuch, Refused}
use Rattle.fl_wire.specs.declared.packet.Packet.{Packet}
use Rattle.fl_wire.specs.declared.packet.Packet.TheVariants as packets
use Rattle.fl_workers.specs.Over.{CrewOver}

-- what is said of a packet that came
comes_as : (packet : Packet) (reply : Reply) → shown_alone (coming (is_message packet) reply) ≡ said_of packet reply
comes_as (packets.Full batch) reply = refl
comes_as (packets.Have window) reply = refl
comes_as (packets.Delta batch) reply = refl
comes_as (packets.Data d) (Job reply) = refl
comes_as (packets.Data d) (Begun name) = refl
comes_as (packets.Data d) (Taking count) = refl
comes_as (packets.Data d) (Took count) = refl
comes_as (packets.Data d) (Published name) = refl
comes_as (packets.Data d) Done = refl
comes_as (packets.Data d) (Booted boot) = refl
comes_as (packets.Data d) (Sent first count) = refl
comes_as (packets.Data d) NoSuch = refl
comes_as (packets.Data d) (Refused fault) = refl

-- a number has one packet, and one window
pub same_sent : (sent : List Packet) (packet : ℕ) (x y : Packet) → item_at sent packet ≡ Some x
    → item_at sent packet ≡ Some y → x ≡ y
same_sent sent packet x y at at' = cc (at, at')

pub same_window : (sent : List Packet) (packet : ℕ) (x y : Intervals) → item_at sent packet ≡ Some (packets.Have x)
    → item_at sent packet ≡ Some (packets.Have y) → x ≡ y
same_window sent packet x y at at' = cc (at, at')

-- of a packet that is copied, or is not
pub made_some : (P : Type 0) (made : Option Packet) (copy : Packet) → made ≡ Some copy → IfNone made P
made_some P None copy is = absurd (cc)
made_some P (Some made) copy is = tt

pub made_none : {P : Type 0} (made : Option Packet) → made ≡ None → P → IfNone made P
made_none None is p = p
made_none (Some made) is p = absurd (cc)

-- a window that was sent
pub window_sent : (sent : List Packet) (packet : ℕ) (x : Packet) (copy : Option Packet) → item_at sent packet ≡ Some x
    → copy ≡ None → IfNone copy ((window : Intervals) × (x ≡ packets.Have window))
    → (window : Intervals) × (item_at sent packet ≡ Some (packets.Have window))
window_sent sent packet x None at is some = (some.0, at ∙ ap (λ p. Some p) some.1)
window_sent sent packet x (Some copy) at is some = absurd (cc)

module _ {K M : Type 0} (custody : Custody K) (old new : CrewsOver K M) (number : ℕ) where
  -- it is answered
  pub window_comes : (packet : ℕ) (sent : Packet) (reply : Reply)
      → (window : Intervals) × (item_at old.sent packet ≡ Some (packets.Have window)) → item_at old.sent packet ≡ Some sent
      → ((window : Intervals) → item_at old.sent packet ≡ Some (packets.Have window) → AnswersWindow old number window reply new)
      → Comes custody old number sent reply new
  window_comes packet sent reply window at answers =
      subst (λ p. Comes custody old number p reply new) (same_sent old.sent packet (packets.Have window.0) sent window.1 at)
      (Comes.window (answers window.0 window.1))

  pub delivered : (packet : ℕ) (sent : Packet) (message : Bool) (reply : Reply) (r : Response) → item_at old.sent packet ≡ Some sent
      → message ≡ is_message sent → r ≡ coming message reply → Comes custody old number sent reply new
      → ComesAt custody old number packet (shown_alone r) new
  delivered packet sent message reply r at is said comes = record {
    sent = sent;
    there = at;
    delivers = subst (λ a. DeliversAt custody old number sent a new)
        (sym (ap shown_alone (said ∙ ap (λ m. coming m reply) is) ∙ comes_as sent reply)) (DeliversAt.comes comes);
  }

module _ {K M : Type 0} (crews : CrewsOver K M) (number : ℕ) (crew : CrewOver K) where
  -- why it tells nothing
  pub told_nothing : (stopped : Bool) (fault : Fault) (r : Response) → crew.stopped ≡ stopped → IsCrewAt crews number crew
      → (crew.stopped ≡ true → fault ≡ Stopped) → (crew.stopped ≡ false → TellsNothing crew.node.node.state fault)
      → r ≡ response.Reply (Refused fault) → TellsAt crews number (shown_alone r) crews
  told_nothing true fault r is at stops nothing e =
      subst (λ r. TellsAt crews number (shown_alone r) crews) (sym (e ∙ ap (λ f. response.Reply (Refused f)) (stops is)))
      (TellsAt.stopped at is)
  told_nothing false fault r is at stops nothing e =
      subst (λ r. TellsAt crews number (shown_alone r) crews) (sym e) (TellsAt.nothing at is (nothing is))

  -- why it answers no window
  pub answered_nothing : (window : Intervals) (stopped : Bool) (fault : Fault) → crew.stopped ≡ stopped
      → IsCrewAt crews number crew → (crew.stopped ≡ true → fault ≡ Stopped)
      → (crew.stopped ≡ false → AnswersNothing crew.node.node window fault)
      → AnswersWindow crews number window (Refused fault) crews
  answered_nothing window true fault is at stops nothing =
      subst (λ f. AnswersWindow crews number window (Refused f) crews) (sym (stops is)) (AnswersWindow.stopped at is)
  answered_nothing window false fault is at stops nothing = AnswersWindow.nothing at is (nothing is)
