-- What a line that is no job asks of the crews, and what it is answered.
use Rattle.std.specs.Prelude.{◌≡◌, ◌⊎◌, ◌+◌, ◌<◌, ◌∷◌, [], ℕ, Bool, List, false, length, true}
use Rattle.std.specs.declared.option.Option.TheVariants.{None, Some}
use Rattle.std.specs.declared.result.Result.{Result}
use Rattle.std.specs.declared.result.Result.TheVariants.{Ok, Err}
use Rattle.std.specs.Prelude.{IfErr, IsTrue, OnErr, OnOk}
use Rattle.fl_labels.specs.SetBy as set
use Rattle.fl_jobs.specs.declared.answer.Refusal.TheVariants.{Memory}
use Rattle.fl_makers.specs.Making.{AllowsNoMore, Making}
use Rattle.fl_node.specs.Causes.{KeeperFails, LoadsBadRow}
use Rattle.fl_node.specs.Checking.{Checks}
use Rattle.fl_node.specs.Telling.{AnswersNothing, TellsNothing}
use Rattle.fl_ops.specs.Grammar.{first_fault}
use Rattle.fl_opset.specs.declared.intervals.Intervals.{Intervals}
use Rattle.fl_registrar.specs.Passing.{Passes}
use Rattle.fl_store.specs.Custody.{Custody}
use Rattle.fl_store.specs.Kept.{HasNamesOnce, Kept}
use Rattle.fl_system.specs.Gossip.{IsAnswer, IsSummary}
use Rattle.fl_system.specs.Numbered.{item_at}
use Rattle.fl_system.specs.Waiting.{IsRunning}
use Rattle.fl_system.specs.declared.answer.Fault.{Fault}
use Rattle.fl_system.specs.declared.answer.Fault.TheVariants.{Refused as Refuses, Stopped}
use Rattle.fl_system.specs.declared.reply.Reply.{Reply}
use Rattle.fl_system.specs.declared.reply.Reply.TheVariants.{Booted, Refused, Sent}
use Rattle.fl_wire.specs.PacketGrammar.{packet_fields, packet_kept}
use Rattle.fl_wire.specs.Spelling.{Spells}
use Rattle.fl_wire.specs.declared.packet.Packet.{Packet}
use Rattle.fl_wire.specs.declared.packet.Packet.TheVariants as packets
use Rattle.fl_workers.specs.Over.{CrewOver}
use Rattle.fl_workers.specs.Seated.{NotOpened, OpensCrew, RestartsCrew, seated_of}
use Rattle.fl_workers.specs.Seats.{empty_of}
use Rattle.fl_calls.specs.Answer.{Answer, bad_packet, checked, replied, text, unknown}
use Rattle.fl_calls.specs.Calls.{counted, said_of}
use Rattle.fl_calls.specs.Completing.{starved}
use Rattle.fl_crew_calls.specs.Batches.{ServesBatch}
use Rattle.fl_crew_calls.specs.Joining.{ClashesAt, FindsAgainst, StraysAt}
use Rattle.fl_crew_calls.specs.Over.{CrewsOver, IsCrewAt, IsUnopened, with_crew, with_sent}

-- ---- a node is opened

-- this keeper may be made for the node, and what it may hold is found of it
pub record IsMade {K M : Type 0} (custody : Custody K) (making : Making M K) (maker : M) (number : ℕ)
    (keeper : K) : Type 0 where
  pub makes : making.makes maker number keeper
  pub finds : custody.is_honest keeper → (k : Kept) → custody.may_hold keeper k
      → making.finds maker number k

-- the keeper's crew is seated so
pub record IsSeated {K : Type 0} (custody : Custody K) (number workers : ℕ) (keeper : K)
    (crew : CrewOver K) : Type 0 where
  pub seated : crew ≡ seated_of crew.node workers
  pub number_is : crew.node.node.number ≡ number
  pub opens : Passes custody (λ k k'. OpensCrew number workers k crew k') keeper crew.node.keeper

-- why it has no crew: none was made, or the one that was made is not opened, or there was no memory
pub data IsNotOpened {K M : Type 0} (custody : Custody K) (making : Making M K) (maker : M) (number : ℕ)
    : Fault → Type 0 where
  unmade : {fault : Fault} → making.unmade maker number fault
      → IsNotOpened custody making maker number fault
  not_opened : {keeper : K} {fault : Fault} → IsMade custody making maker number keeper
      → NotOpened custody number keeper fault → IsNotOpened custody making maker number fault
  no_room : IsNotOpened custody making maker number (Refuses Memory)

-- The node of this number is open, or is opened over the keeper that is made for it, or is not: where
-- it and the open ones contradict each other, that is why.
pub data Opens {K M : Type 0} (custody : Custody K) (making : Making M K) (old : CrewsOver K M)
    (number : ℕ) : Result (Unit {0}) Fault → CrewsOver K M → Type 0 where
  is_open : {crew : CrewOver K} → IsCrewAt old number crew
      → Opens custody making old number (Ok tt) old
  opened : {keeper : K} {crew : CrewOver K} {maker : M} → IsUnopened old number
      → IsMade custody making old.maker number keeper → AllowsNoMore making old.maker maker
      → IsSeated custody number old.workers keeper crew → HasNamesOnce crew.node.node.saved
      → FindsAgainst (ClashesAt old crew.node.node.saved) (StraysAt old number crew.node.node.saved) None
      → Opens custody making old number (Ok tt) (with_crew (record old { maker = maker }) number crew)
  contradicts : {keeper : K} {crew : CrewOver K} {maker : M} {fault : Fault} → IsUnopened old number
      → IsMade custody making old.maker number keeper → AllowsNoMore making old.maker maker
      → IsSeated custody number old.workers keeper crew
      → FindsAgainst (ClashesAt old crew.node.node.saved) (StraysAt old number crew.node.node.saved)
      (Some fault)
      → Opens custody making old number (Err fault) (record old { maker = maker })
  shut : {maker : M} {fault : Fault} → IsUnopened old number
      → AllowsNoMore making old.maker maker
      → IsNotOpened custody making old.maker number fault
      → Opens custody making old number (Err fault) (record old { maker = maker })

-- The node is opened where it is not open, and then this is done and answered; where it is not
-- opened, the line is answered why.
pub data OnceOpen {K M : Type 0} (custody : Custody K) (making : Making M K) (old : CrewsOver K M)
    (number : ℕ) (does : CrewsOver K M → Answer → CrewsOver K M → Type 0)
    : Answer → CrewsOver K M → Type 0 where
  shut : {fault : Fault} {new : CrewsOver K M} → Opens custody making old number (Err fault) new
      → OnceOpen custody making old number does (replied (Refused fault)) new
  opened : {answer : Answer} {between new : CrewsOver K M}
      → Opens custody making old number (Ok tt) between → does between answer new
      → OnceOpen custody making old number does answer new

-- ---- what is asked of a crew that is there

-- these packets are sent, or there is no memory to keep them
pub data SendsAll {K M : Type 0} (old : CrewsOver K M) (told : List Packet)
    : Reply → CrewsOver K M → Type 0 where
  sent : SendsAll old told (Sent (length old.sent + 1) (length told)) (with_sent old told)
  no_room : 0 < length told → SendsAll old told starved old

-- what it has saved is told in windows
pub data TellsAt {K M : Type 0} (old : CrewsOver K M) (number : ℕ)
    : Answer → CrewsOver K M → Type 0 where
  tells : {crew : CrewOver K} {told : List Packet} {reply : Reply} {new : CrewsOver K M}
      → IsCrewAt old number crew → crew.stopped ≡ false → IsSummary crew.node.node.saved told
      → SendsAll old told reply new → TellsAt old number (replied reply) new
  stopped : {crew : CrewOver K} → IsCrewAt old number crew → crew.stopped ≡ true
      → TellsAt old number (replied (Refused Stopped)) old
  nothing : {crew : CrewOver K} {fault : Fault} → IsCrewAt old number crew
      → crew.stopped ≡ false → TellsNothing crew.node.node.state fault
      → TellsAt old number (replied (Refused fault)) old

-- what a window lacks is told in deltas
pub data AnswersWindow {K M : Type 0} (old : CrewsOver K M) (number : ℕ) (window : Intervals)
    : Reply → CrewsOver K M → Type 0 where
  answers : {crew : CrewOver K} {told : List Packet} {reply : Reply} {new : CrewsOver K M}
      → IsCrewAt old number crew → crew.stopped ≡ false
      → IsAnswer crew.node.node.saved window told
      → SendsAll old told reply new → AnswersWindow old number window reply new
  stopped : {crew : CrewOver K} → IsCrewAt old number crew → crew.stopped ≡ true
      → AnswersWindow old number window (Refused Stopped) old
  nothing : {crew : CrewOver K} {fault : Fault} → IsCrewAt old number crew
      → crew.stopped ≡ false → AnswersNothing crew.node.node window fault
      → AnswersWindow old number window (Refused fault) old

-- what the only place of a batch is replied
abbrev pub only_reply : Result (List Reply) Fault → Reply
only_reply (Ok []) = Refused Stopped
only_reply (Ok (reply ∷ replies)) = reply
only_reply (Err fault) = Refused fault

-- it asks for what it lacks, and brings nothing
abbrev pub is_window : Packet → Bool
is_window (packets.Full batch) = false
is_window (packets.Have window) = true
is_window (packets.Delta batch) = false
is_window (packets.Data message) = false

-- A packet comes: a window is answered, and any other is a batch of its own, which takes memory.
pub data Comes {K M : Type 0} (custody : Custody K) (old : CrewsOver K M) (number : ℕ)
    : Packet → Reply → CrewsOver K M → Type 0 where
  window : {window : Intervals} {reply : Reply} {new : CrewsOver K M}
      → AnswersWindow old number window reply new
      → Comes custody old number (packets.Have window) reply new
  batch : {packet : Packet} {result : Result (List Reply) Fault} {new : CrewsOver K M}
      → is_window packet ≡ false
      → ServesBatch custody old number [] (packet ∷ []) result new
      → Comes custody old number packet (only_reply result) new
  no_room : {packet : Packet} → is_window packet ≡ false
      → Comes custody old number packet starved old

-- the packet of this number, which was sent, comes to the node
pub data DeliversAt {K M : Type 0} (custody : Custody K) (old : CrewsOver K M)
    (number : ℕ) (packet : Packet) : Answer → CrewsOver K M → Type 0 where
  comes : {reply : Reply} {new : CrewsOver K M} → Comes custody old number packet reply new
      → DeliversAt custody old number packet (said_of packet reply) new

-- what a restart is answered
abbrev pub boot_reply : Result ℕ Fault → Reply
boot_reply (Ok boot) = Booted boot
boot_reply (Err fault) = Refused fault

-- the crew is restarted so
pub record IsRestarted {K : Type 0} (custody : Custody K) (keeps : Bool) (old new : CrewOver K)
    (result : Result ℕ Fault) : Type 0 where
  pub seated : OnOk result (new ≡ seated_of new.node old.size)
  pub stopped : OnErr result (new ≡ empty_of new.node old.size)
  pub number_is : new.node.node.number ≡ old.node.node.number
  pub restarts : Passes custody (λ k k'. RestartsCrew old.node.node keeps result new.node.node k k')
      old.node.keeper new.node.keeper
  pub cause : IfErr result (KeeperFails (IsTrue (custody.is_broken new.node.keeper))
      (custody.is_honest new.node.keeper)
      (LoadsBadRow custody old.node.node.state old.node.keeper))

pub data RestartsAt {K M : Type 0} (custody : Custody K) (old : CrewsOver K M) (number : ℕ)
    (keeps : Bool) : Answer → CrewsOver K M → Type 0 where
  restarts : {crew crew' : CrewOver K} {result : Result ℕ Fault} → IsCrewAt old number crew
      → IsRestarted custody keeps crew crew' result
      → RestartsAt custody old number keeps (replied (boot_reply result)) (with_crew old number crew')

-- its registrar's node serves, and has published so
abbrev pub IsServing : {K : Type 0} → CrewOver K → Type 0
IsServing crew = (crew.stopped ≡ false) × IsRunning crew.node.node.state

-- What the node has published is told. It is copied, which takes memory where there is something.
pub data TellsText {K M : Type 0} (old : CrewsOver K M) (number : ℕ)
    : Answer → CrewsOver K M → Type 0 where
  tells : {crew : CrewOver K} → IsCrewAt old number crew → IsServing crew
      → TellsText old number (text (set.of_list crew.node.node.published)) old
  stopped : {crew : CrewOver K} → IsCrewAt old number crew → ¬ IsServing crew
      → TellsText old number (replied (Refused Stopped)) old
  no_room : {crew : CrewOver K} → IsCrewAt old number crew → IsServing crew
      → 0 < length crew.node.node.published → TellsText old number (replied starved) old

-- the same, of two nodes together
pub data Unites {K M : Type 0} (old : CrewsOver K M) (first second : ℕ)
    : Answer → CrewsOver K M → Type 0 where
  tells : {one other : CrewOver K} → IsCrewAt old first one → IsCrewAt old second other
      → IsServing one → IsServing other → Unites old first second
      (text (set.union (set.of_list one.node.node.published) (set.of_list other.node.node.published)))
      old
  stopped : {number : ℕ} {crew : CrewOver K} → (number ≡ first) ⊎ (number ≡ second)
      → IsCrewAt old number crew → ¬ IsServing crew
      → Unites old first second (replied (Refused Stopped)) old
  no_room : {one other : CrewOver K} → IsCrewAt old first one → IsCrewAt old second other
      → IsServing one → IsServing other
      → (0 < length one.node.node.published) ⊎ (0 < length other.node.node.published)
      → Unites old first second (replied starved) old

-- what a packet of these bytes would bring to the node
pub data ChecksAt {K M : Type 0} (old : CrewsOver K M) (number : ℕ) (bytes : List ℕ)
    : Answer → CrewsOver K M → Type 0 where
  no_packet : {place : ℕ} → first_fault (packet_fields bytes) ≡ Some place
      → ChecksAt old number bytes (bad_packet place) old
  no_room : first_fault (packet_fields bytes) ≡ None → 0 < packet_kept bytes
      → ChecksAt old number bytes (replied starved) old
  stopped : {crew : CrewOver K} {packet : Packet} → IsCrewAt old number crew → ¬ IsServing crew
      → Spells bytes packet → ChecksAt old number bytes (replied (Refused Stopped)) old
  tells : {crew : CrewOver K} {packet : Packet} {count : ℕ} → IsCrewAt old number crew
      → IsServing crew → Spells bytes packet → Checks crew.node.node packet (Ok count)
      → ChecksAt old number bytes (checked (counted packet count)) old
  refuses : {crew : CrewOver K} {packet : Packet} {fault : Fault} → IsCrewAt old number crew
      → IsServing crew → Spells bytes packet → Checks crew.node.node packet (Err fault)
      → ChecksAt old number bytes (replied (Refused fault)) old
