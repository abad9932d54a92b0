use Rattle.fl_machine.specs.Shown.{Shows}
use Rattle.fl_machine.proofs.packets.unread.Goals as goal

pub returns-in-BadPacket : goal.returns-in-BadPacket
returns-in-BadPacket c = λ keys n. rw c.in-BadPacket.is Shows.bad_packet

pub returns-in-Memory : goal.returns-in-Memory
returns-in-Memory c = λ keys n. rw (c.in-Memory.is, c.starved.ensures) Shows.replied
