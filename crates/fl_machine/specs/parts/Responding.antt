-- What is responded, with what is done.
use Rattle.std.specs.Prelude.{◌≡◌, ℕ, IsTrue, List, ◌∷◌}
use Rattle.fl_seal.specs.declared.seal.Key.{Key}
use Rattle.fl_store.specs.Custody.{Custody}
use Rattle.fl_wire.specs.declared.packet.Packet.{Packet}
use Rattle.fl_node.specs.Over.{NodeOver}
use Rattle.fl_system.specs.State.{NodeState}
use Rattle.fl_calls.specs.Completing.{starved}
use Rattle.fl_machine_calls.specs.Going.{DoesAlone, Doings, IsSameNode}
use Rattle.fl_machine_model.specs.Acts.{Saying, Sends}
use Rattle.fl_machine_turns.specs.Answer.{Answer}
use Rattle.fl_machine.specs.Shown.{Shows, status_said}
use Rattle.fl_machine.specs.declared.response.Response.{Response}
use Rattle.fl_machine.specs.declared.response.Response.TheVariants as response

-- What is said is shown so, or, where packets are sent and there is no room for their bytes, by
-- that.
pub data ShowsSaying (keys : List Key) (n : NodeState) (shown : Saying → Answer) (saying : Saying)
    : Response → Type 0 where
  as_said : {r : Response} → Shows keys n r (shown saying) → ShowsSaying keys n shown saying r
  no_room : {packet : Packet} {packets : List Packet} → saying ≡ Sends (packet ∷ packets)
      → ShowsSaying keys n shown saying (response.Reply starved)

-- The response shows an answer of these, and does not say that a keeper failed.
pub record ShowsOne (keys : List Key) (n : NodeState) (these : Answer → Type 0) (r : Response)
    : Type 0 where
  pub answer : Answer
  pub shows : Shows keys n r answer
  pub is : these answer
  pub quiet : status_said r ≡ 3 → ⊥

-- The response shows an answer: this is done, with so much noted, and answered so. Where it says
-- that the keeper failed, that is broken.
pub record Responds {K : Type 0} (custody : Custody K) (keys : List Key) (old : NodeOver K)
    (does : Doings Answer) (r : Response) (count : ℕ) (new : NodeOver K)
    : Type 0 where
  pub answer : Answer
  pub shows : Shows keys new.node r answer
  pub done : DoesAlone custody old does count answer new
  pub same : IsSameNode old.node new.node
  pub cause : status_said r ≡ 3 → IsTrue (custody.is_broken new.keeper)
