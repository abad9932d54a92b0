use Rattle.fl_sealed_packets.specs.Coming.{unsealed}
use Rattle.fl_sealed_packets.proofs.Openings.{read}
use Rattle.fl_sealed_packets.proofs.coming.read_packet.Goals as goal

pub returns-in-Some : goal.returns-in-Some
returns-in-Some c = read c.args.keys.now c.args.bytes.now c.in-Some.plain.now c.in-Some.ensures c.decode.result c.decode.ensures

pub returns-in-None : goal.returns-in-None
returns-in-None c = unsealed c.in-None.ensures
