-- What the calls of crews do.
use Rattle.std.specs.Prelude.{◌≡◌, [], ℕ}
use Rattle.std.specs.declared.option.Option.TheVariants.{None, Some}
use Rattle.fl_makers.specs.Making.{Making}
use Rattle.fl_store.specs.Custody.{Custody}
use Rattle.fl_system.specs.Numbered.{item_at}
use Rattle.fl_wire.specs.declared.packet.Packet.{Packet}
use Rattle.fl_script.specs.declared.line.Line.{Line}
use Rattle.fl_script.specs.declared.line.Line.TheVariants.{Aliases, Audit, Node, Union}
use Rattle.fl_script.specs.declared.request.Request.{Request}
use Rattle.fl_script.specs.declared.request.Request.TheVariants.{Job, Begin, Deliver, BeginDeliver, Tell, Save, Publish, Cancel, Restart, Text, Check}
use Rattle.fl_calls.specs.Answer.{Answer, unknown}
use Rattle.fl_crew_turns.specs.Session.{CrewCalls}
use Rattle.fl_crew_calls.specs.Asking.{ChecksAt, DeliversAt, OnceOpen, Opens, RestartsAt, TellsAt, TellsText, Unites}
use Rattle.fl_crew_calls.specs.Batches.{ServesBatch}
use Rattle.fl_crew_calls.specs.Over.{CrewsOver}

-- The packet of this number comes to the node, which is opened first; where none was sent, the line
-- is none of the script, and no node is opened.
pub data Delivers {K M : Type 0} (custody : Custody K) (making : Making M K) (old : CrewsOver K M)
    (number packet : ℕ) : Answer → CrewsOver K M → Type 0 where
  not_sent : item_at old.sent packet ≡ None → Delivers custody making old number packet unknown old
  comes : {sent : Packet} {answer : Answer} {new : CrewsOver K M}
      → item_at old.sent packet ≡ Some sent
      → OnceOpen custody making old number (λ between. DeliversAt custody between number sent) answer new
      → Delivers custody making old number packet answer new

-- it is none of a script over crews, and changes nothing
abbrev pub IsNone : {K M : Type 0} → CrewsOver K M → Answer → CrewsOver K M → Type 0
IsNone old answer new = (answer ≡ unknown) × (new ≡ old)

-- What is asked of the node of this number is answered so. Steps of an order are none of a script
-- over crews.
abbrev pub AsksCrew : {K M : Type 0} → Custody K → Making M K → CrewsOver K M → ℕ → Request → Answer
    → CrewsOver K M → Type 0
AsksCrew custody making old number (Deliver packet) = Delivers custody making old number packet
AsksCrew custody making old number Tell =
    OnceOpen custody making old number (λ between. TellsAt between number)
AsksCrew custody making old number (Restart keeps) =
    OnceOpen custody making old number (λ between. RestartsAt custody between number keeps)
AsksCrew custody making old number Text =
    OnceOpen custody making old number (λ between. TellsText between number)
AsksCrew custody making old number (Check bytes) =
    OnceOpen custody making old number (λ between. ChecksAt between number bytes)
AsksCrew custody making old number (Job job) = IsNone old
AsksCrew custody making old number (Begin pid order) = IsNone old
AsksCrew custody making old number (BeginDeliver packet) = IsNone old
AsksCrew custody making old number Save = IsNone old
AsksCrew custody making old number Publish = IsNone old
AsksCrew custody making old number Cancel = IsNone old

-- What a line that is no job asks of the crews is answered so. What was admitted is not counted.
abbrev pub RespondsTo : {K M : Type 0} → Custody K → Making M K → CrewsOver K M → Line → Answer
    → CrewsOver K M → Type 0
RespondsTo custody making old (Node number request) = AsksCrew custody making old number request
RespondsTo custody making old (Union first second) =
    OnceOpen custody making old first (λ between.
    OnceOpen custody making between second (λ u. Unites u first second))
RespondsTo custody making old Audit = IsNone old
RespondsTo custody making old Aliases = IsNone old

-- all of them
unfoldable pub crews_calls : {K M : Type 0} → Custody K → Making M K → CrewCalls (CrewsOver K M)
crews_calls custody making = record {
  opens = Opens custody making;
  serves = λ old number jobs. ServesBatch custody old number jobs [];
  responds = RespondsTo custody making;
}
