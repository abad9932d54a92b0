use Rattle.fl_wire.proofs.NoFault.{no_fault}
use Rattle.fl_wire.proofs.OnePacket.{one_packet, second_has_packet}
use Rattle.fl_wire.proofs.PacketThere.{packet_there}
use Rattle.fl_wire.proofs.laws.law_one_packet.Goals as goal

pub returns-clause-whole : goal.returns-clause-whole
returns-clause-whole c = no_fault

pub returns-clause-spelled : goal.returns-clause-spelled
returns-clause-spelled c = packet_there

pub returns-clause-one : goal.returns-clause-one
returns-clause-one c = one_packet

pub returns-clause-written : goal.returns-clause-written
returns-clause-written c = second_has_packet
