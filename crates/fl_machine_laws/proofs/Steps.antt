-- What machines send, and what of it comes: around one turn of many.
use Rattle.std.proofs.Common.{◌≡◌, ◌<◌, ◌+◌, ◌++◌, ◌∙◌, ℕ, zero, suc, List, [], ◌∷◌, length}
use Rattle.std.proofs.Common.{take, Some, refl, sym, ap, subst, arith}
use Rattle.std.specs.List.{Contains}
use Rattle.fl_opset.specs.declared.intervals.Intervals.{Intervals}
use Rattle.fl_wire.specs.declared.packet.Packet.{Packet}
use Rattle.fl_wire.specs.declared.packet.Packet.TheVariants as packets
use Rattle.fl_bench.specs.laws.Puts.{same_found}
use Rattle.fl_system.specs.Gossip.{IsSummary, IsAnswer, told_by}
use Rattle.fl_system.specs.Numbered.{item_at}
use Rattle.fl_system.specs.declared.sent.Sent.{Sent}
use Rattle.fl_system.specs.World.{KeptNode}
use Rattle.fl_round_laws.specs.laws.Items.{behind_at, mapped_at, stays_at}
use Rattle.fl_machine_model.specs.Acts.{Act, Tell, Receive, Saying, Sends, Outcome}
use Rattle.fl_machine_model.specs.Alone.{MachineStep, TellAlone, WindowAlone, PacketAlone}
use Rattle.fl_machine_model.specs.Machines.{Machines, Deed, Acts, Gets, Happens, Turn, AreTurns}
use Rattle.fl_machine_model.specs.Machines.{AreMet, last, no_machine}
use Rattle.fl_machine_laws.specs.OneRun.{next_of}
use Rattle.fl_machine_laws.specs.Places.{IsUp}
use Rattle.fl_machine_laws.specs.Rounds.{OccursOn}
use Rattle.fl_machine_laws.proofs.Parts.{turns_first, turns_rest, last_on}
use Rattle.fl_machine_laws.proofs.Summaries.{sent_from, same_window}

-- ---- items of lists by their numbers, from 1 on

-- there is one at each index
pub item_of : {A : Type 0} (xs : List A) (k : ℕ) → k < length xs
    → (x : A) × (item_at xs (suc k) ≡ Some x)
item_of [] k inside = absurd (omega (arith, inside))
item_of (x ∷ xs) zero inside = (x, refl)
item_of (x ∷ xs) (suc k) inside = item_of xs k (omega (arith, inside))

-- an item is one of them
pub item_in : {A : Type 0} (xs : List A) (k : ℕ) (x : A) → item_at xs (suc k) ≡ Some x
    → (k < length xs) × Contains xs x
item_in [] k x e = absurd (cc)
item_in (y ∷ xs) zero x e = let same : y ≡ x = cc in (omega arith, (0, omega arith, same))
item_in (y ∷ xs) (suc k) x e =
    let i = item_in xs k x e in
    (omega (arith, i.0), (suc i.1.0, omega (arith, i.1.1), i.1.2))

-- of the first so many
pub first_item : {A : Type 0} (most : ℕ) (xs : List A) (k : ℕ) (x : A)
    → item_at (take most xs) (suc k) ≡ Some x → (k < most) × (item_at xs (suc k) ≡ Some x)
first_item zero xs k x e = absurd (cc)
first_item (suc most) [] k x e = absurd (cc)
first_item (suc most) (y ∷ xs) zero x e = (omega arith, e)
first_item (suc most) (y ∷ xs) (suc k) x e =
    let i = first_item most xs k x e in (omega (arith, i.0), i.1)

-- ---- around one turn

pub record Cut (m : Machines) (ts : List Turn) {deed : Deed} (o : OccursOn deed ts) : Type 0 where
  pub before : AreTurns m o.earlier
  pub happens : Happens (last m o.earlier) deed o.after
  pub rest : AreTurns o.after o.later
  pub ends : last o.after o.later ≡ last m ts

pub cut : (m : Machines) (ts : List Turn) {deed : Deed} (o : OccursOn deed ts) → AreTurns m ts
    → Cut m ts o
cut m ts {deed} o are =
    let t : Turn = record { deed = deed; after = o.after } in
    let all = subst (AreTurns m) o.turns_are are in
    let rest = turns_rest m o.earlier (t ∷ o.later) all in
    record {
      before = turns_first m o.earlier (t ∷ o.later) all;
      happens = rest.0;
      rest = rest.1;
      ends = sym (ap (last m) o.turns_are ∙ last_on m o.earlier (t ∷ o.later));
    }

turns_both : (m : Machines) (ts us : List Turn) → AreTurns m ts → AreTurns (last m ts) us
    → AreTurns m (ts ++ us)
turns_both m [] us first then = then
turns_both m (t ∷ ts) us first then = (first.0, turns_both t.after ts us first.1 then)

pub met_on : (m : Machines) (ts : List Turn) → AreMet m → AreTurns m ts → AreMet (last m ts)
met_on m ts met are =
    record {
      desks = met.desks;
      turns = met.turns ++ ts;
      are =
          turns_both (no_machine met.desks) met.turns ts met.are
          (subst (λ (x : Machines). AreTurns x ts) (sym met.leads) are);
      leads =
          last_on (no_machine met.desks) met.turns ts
          ∙ ap (λ (x : Machines). last x ts) met.leads;
    }

pub met_next : {m m' : Machines} {deed : Deed} → AreMet m → Happens m deed m' → AreMet m'
met_next {m} {m'} {deed} met happens =
    met_on m (record { deed = deed; after = m' } ∷ []) met (happens, tt)

-- ---- what was sent stays so

happens_packets : {m m' : Machines} {deed : Deed} → Happens m deed m' → (k : ℕ) (x : Sent)
    → item_at m.packets k ≡ Some x → item_at m'.packets k ≡ Some x
happens_packets {m} (Happens.born free blank opening) k x e = stays_at m.packets [] k x e
happens_packets (Happens.not_born free blank opening) k x e = e
happens_packets {m} (Happens.opens there opening) k x e = stays_at m.packets [] k x e
happens_packets {m} (Happens.not_opened there opening) k x e = stays_at m.packets [] k x e
happens_packets {m} (Happens.acts {o = o} there other step) k x e =
    stays_at m.packets o.sent k x e
happens_packets {m} (Happens.gets {o = o} there was step) k x e = stays_at m.packets o.sent k x e
happens_packets {m} (Happens.ends there leaves) k x e = stays_at m.packets [] k x e

pub packets_stay : (m : Machines) (ts : List Turn) → AreTurns m ts → (k : ℕ) (x : Sent)
    → item_at m.packets k ≡ Some x → item_at (last m ts).packets k ≡ Some x
packets_stay m [] are k x e = e
packets_stay m (t ∷ ts) are k x e =
    packets_stay t.after ts are.1 k x (happens_packets are.0 k x e)

-- ---- a summary, and an answer

-- these packets are sent next
abbrev AreSent : Machines → Machines → ℕ → List Packet → Type 0
AreSent m m' number told =
    (k : ℕ) (p : Packet) → item_at told (suc k) ≡ Some p
    → item_at m'.packets (next_of m + k) ≡ Some (sent_from number p)

are_sent : (m m' : Machines) (number : ℕ) (told : List Packet)
    → m'.packets ≡ m.packets ++ told_by number told → AreSent m m' number told
are_sent m m' number told is k p e =
    subst (λ (l : List Sent). item_at l (next_of m + k) ≡ Some (sent_from number p)) (sym is)
    (behind_at m.packets (told_by number told) (next_of m + k) (suc k) (sent_from number p)
    (omega arith) (mapped_at (sent_from number) told (suc k) p e))

same_told : {a b : List Packet} → Sends a ≡ Sends b → a ≡ b
same_told e = cc

-- what the machine of this number told
pub record ToldOn (m m' : Machines) (number : ℕ) (told : List Packet) : Type 0 where
  pub s : KeptNode
  pub up : IsUp m number s
  pub summary : IsSummary s.node.saved told
  pub sent : AreSent m m' number told

tell_is : {number : ℕ} {s : KeptNode} {o : Outcome} {told : List Packet}
    → MachineStep number s Tell o → o.says ≡ Sends told
    → IsSummary s.node.saved told × (o.sent ≡ told_by number told)
tell_is (MachineStep.tell (TellAlone.stopped why)) e = absurd (cc)
tell_is (MachineStep.tell (TellAlone.no_room running)) e = absurd (cc)
tell_is {number} {s} (MachineStep.tell (TellAlone.tells running are)) e =
    (subst (IsSummary s.node.saved) (same_told e) are, ap (told_by number) (same_told e))

told_as : {m : Machines} {number : ℕ} {act : Act} {saying : Saying} {m' : Machines}
    {told : List Packet} → Happens m (Acts number act saying) m' → act ≡ Tell → saying ≡ Sends told
    → ToldOn m m' number told
told_as {m} {m' = m'} {told = told} (Happens.acts {number} {s} {act} {o} there other step) is e =
    let t = tell_is (subst (λ a. MachineStep number s a o) is step) e in
    record {
      s = s;
      up = there;
      summary = t.0;
      sent = are_sent m m' number told (ap (λ l. m.packets ++ l) t.1);
    }

pub told_on : {m m' : Machines} {number : ℕ} {told : List Packet}
    → Happens m (Acts number Tell (Sends told)) m' → ToldOn m m' number told
told_on h = told_as h refl refl

-- what the machine of this number answered to the packet
pub record AnsweredOn (m m' : Machines) (packet number : ℕ) (window : Intervals)
    (told : List Packet) : Type 0 where
  pub s : KeptNode
  pub up : IsUp m number s
  pub answer : IsAnswer s.node.saved window told
  pub sent : AreSent m m' number told

answer_is : {number : ℕ} {s : KeptNode} {packet : Packet} {o : Outcome} {window : Intervals}
    {told : List Packet} → MachineStep number s (Receive packet) o → packet ≡ packets.Have window
    → o.says ≡ Sends told
    → IsAnswer s.node.saved window told × (o.sent ≡ told_by number told)
answer_is (MachineStep.receive (PacketAlone.have of (WindowAlone.stopped why))) is e = absurd (cc)
answer_is (MachineStep.receive (PacketAlone.have of (WindowAlone.no_room running some))) is e =
    absurd (cc)
answer_is {number} {s} {window = window}
    (MachineStep.receive (PacketAlone.have of (WindowAlone.answers {told = made} runs a))) is e = (
      subst (IsAnswer s.node.saved window) (same_told e)
          (subst (λ w. IsAnswer s.node.saved w made) (same_window (sym of ∙ is)) a),
      ap (told_by number) (same_told e),
    )
answer_is (MachineStep.receive (PacketAlone.ops of does)) is e = absurd (cc)
answer_is (MachineStep.receive (PacketAlone.message of does)) is e = absurd (cc)

answered_as : {m : Machines} {packet number : ℕ} {saying : Saying} {m' : Machines}
    {told : List Packet} {window : Intervals} {x : Sent} → Happens m (Gets packet number saying) m'
    → saying ≡ Sends told → item_at m.packets packet ≡ Some x → x.packet ≡ packets.Have window
    → AnsweredOn m m' packet number window told
answered_as {m} {m' = m'} {told = told} {window} {x}
    (Happens.gets {packet} {number} {s} {sent} {o} there was step) e at is =
    let same : sent ≡ x = same_found was at in
    let a = answer_is step (ap (λ (y : Sent). y.packet) same ∙ is) e in
    record {
      s = s;
      up = there;
      answer = a.0;
      sent = are_sent m m' number told (ap (λ l. m.packets ++ l) a.1);
    }

pub answered_on : {m m' : Machines} {packet number : ℕ} {told : List Packet} {window : Intervals}
    {x : Sent} → Happens m (Gets packet number (Sends told)) m'
    → item_at m.packets packet ≡ Some x → x.packet ≡ packets.Have window
    → AnsweredOn m m' packet number window told
answered_on h at is = answered_as h refl at is
