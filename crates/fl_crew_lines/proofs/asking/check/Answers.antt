use Rattle.std.specs.Prelude.{◌≡◌, ℕ, List, slice_index}
use Rattle.fl_wire.specs.PacketBytes.{packet_bytes}
use Rattle.fl_wire.specs.PacketFits.{HasPacket}
use Rattle.fl_wire.specs.PacketGrammar.{packet_format}
use Rattle.fl_wire.specs.Spelling.{Spells}
use Rattle.fl_wire.specs.declared.packet.Packet.{Packet}
use Rattle.fl_crew_lines.proofs.Serving.{check_bad, check_refused, check_starved, check_stopped, check_told}
use Rattle.fl_crew_lines.proofs.asking.check.Goals as goal

spelled : {bytes : List ℕ} {packet : Packet} → (let f = packet_format (slice_index bytes 0) in
    HasPacket f packet × (packet_bytes f packet ≡ bytes)) → Spells bytes packet
spelled it = record { format = _; has = it.0; written = it.1 }

pub returns-in-Err-BadPacket : goal.returns-in-Err-BadPacket
returns-in-Err-BadPacket g c =
    check_bad c.args.crews.now c.args.number c.args.bytes.now c.in-Err-BadPacket.field-0
    c.in-Err-BadPacket.place _ c.in-Err-BadPacket.ensures c.in-Err-BadPacket.field-0-is (cc (c.in-Err-BadPacket.place-is))

pub returns-in-Err-Memory : goal.returns-in-Err-Memory
returns-in-Err-Memory g c =
    check_starved c.args.crews.now c.args.number c.args.bytes.now c.in-Err-Memory.field-0
    c.refused.result c.in-Err-Memory.ensures c.in-Err-Memory.field-0-is c.refused.ensures

pub returns-in-Err : goal.returns-in-Err
returns-in-Err g c =
    check_stopped c.args.crews.now c.args.number c.args.bytes.now c.in-Ok.packet c.in-Err.fault c.refused-in-Err.result
    c.requires (spelled c.in-Ok.ensures) c.in-Err.ensures.err c.refused-in-Err.ensures

pub returns-in-Ok-check : goal.returns-in-Ok-check
returns-in-Ok-check g c =
    check_told c.args.crews.now c.args.number c.args.bytes.now c.in-Ok-serving.node.now c.in-Ok.packet
    c.in-Ok-check.count c.counted.result c.in-Ok-serving.ensures.ok (spelled c.in-Ok.ensures) c.in-Ok-check.ensures c.counted.ensures

pub returns : goal.returns
returns g c =
    check_refused c.args.crews.now c.args.number c.args.bytes.now c.in-Ok-serving.node.now c.in-Ok.packet
    c.in-Err-check.fault c.refused-in-Err-check.result c.in-Ok-serving.ensures.ok (spelled c.in-Ok.ensures)
    c.in-Err-check.ensures c.refused-in-Err-check.ensures
