-- How what is said of an act is answered.
use Rattle.std.specs.Prelude.{List, ◌∷◌}
use Rattle.fl_system.specs.World.{KeptNode}
use Rattle.fl_wire.specs.declared.packet.Packet.{Packet}
use Rattle.fl_machine_model.specs.Acts.{Saying, Sends}
use Rattle.fl_machine_turns.specs.Answer.{Answer, starved_line}
use Rattle.fl_machine_turns.specs.Done.{Did}

-- as it is shown, or, where there is no room for the bytes of the packets that are sent, by that:
-- they are lost then
pub data Says (shown : Saying → Answer) (Does : List Did → Saying → KeptNode → Type 0)
    : List Did → Answer → KeptNode → Type 0 where
  as_said : {ds : List Did} {saying : Saying} {s' : KeptNode} → Does ds saying s'
      → Says shown Does ds (shown saying) s'
  no_room : {ds : List Did} {packet : Packet} {packets : List Packet} {s' : KeptNode}
      → Does ds (Sends (packet ∷ packets)) s' → Says shown Does ds starved_line s'
