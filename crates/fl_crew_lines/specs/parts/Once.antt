-- What is asked of a node once it is open.
use Rattle.std.specs.Prelude.{◌≡◌, ℕ, Bool, false, is_some, not, true}
use Rattle.std.specs.declared.option.Option.TheVariants.{Some}
use Rattle.fl_store.specs.Custody.{Custody}
use Rattle.fl_system.specs.Numbered.{item_at}
use Rattle.fl_wire.specs.declared.packet.Packet.{Packet}
use Rattle.fl_script.specs.declared.request.Request.{Request}
use Rattle.fl_script.specs.declared.request.Request.TheVariants.{Job, Begin, Deliver, BeginDeliver, Tell, Save, Publish, Cancel, Restart, Text, Check}
use Rattle.fl_calls.specs.Answer.{Answer}
use Rattle.fl_crew_calls.specs.Asking.{ChecksAt, DeliversAt, RestartsAt, TellsAt, TellsText}
use Rattle.fl_crew_calls.specs.Calls.{IsNone}
use Rattle.fl_crew_calls.specs.Over.{CrewsOver}

-- the packet of this number, which was sent, comes
pub record ComesAt {K M : Type 0} (custody : Custody K) (old : CrewsOver K M) (number packet : ℕ)
    (answer : Answer) (new : CrewsOver K M) : Type 0 where
  pub sent : Packet
  pub there : item_at old.sent packet ≡ Some sent
  pub delivers : DeliversAt custody old number sent answer new

-- what is asked of the crew of the node, which is there, is answered so
abbrev pub AsksOpen : {K M : Type 0} → Custody K → CrewsOver K M → ℕ → Request → Answer
    → CrewsOver K M → Type 0
AsksOpen custody old number (Deliver packet) = ComesAt custody old number packet
AsksOpen custody old number Tell = TellsAt old number
AsksOpen custody old number (Restart keeps) = RestartsAt custody old number keeps
AsksOpen custody old number Text = TellsText old number
AsksOpen custody old number (Check bytes) = ChecksAt old number bytes
AsksOpen custody old number (Job job) = IsNone old
AsksOpen custody old number (Begin pid order) = IsNone old
AsksOpen custody old number (BeginDeliver packet) = IsNone old
AsksOpen custody old number Save = IsNone old
AsksOpen custody old number Publish = IsNone old
AsksOpen custody old number Cancel = IsNone old

-- it is one of a script over crews
abbrev pub is_of_crews : Request → Bool
is_of_crews (Deliver packet) = true
is_of_crews Tell = true
is_of_crews (Restart keeps) = true
is_of_crews Text = true
is_of_crews (Check bytes) = true
is_of_crews (Job job) = false
is_of_crews (Begin pid order) = false
is_of_crews (BeginDeliver packet) = false
is_of_crews Save = false
is_of_crews Publish = false
is_of_crews Cancel = false

-- it names a packet that was not sent
abbrev pub names_none : {K M : Type 0} → CrewsOver K M → Request → Bool
names_none crews (Deliver packet) = not (is_some (item_at crews.sent packet))
names_none crews request = false
