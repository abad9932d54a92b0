use Rattle.std.specs.Prelude.{◌≡◌, ℕ, List, slice_index}
use Rattle.fl_wire.specs.PacketBytes.{packet_bytes}
use Rattle.fl_wire.specs.PacketFits.{HasPacket}
use Rattle.fl_wire.specs.PacketGrammar.{packet_format}
use Rattle.fl_wire.specs.declared.packet.Packet.{Packet}
use Rattle.fl_wire.specs.Spelling.{Spells}
use Rattle.fl_calls.proofs.Failures.{checks_otherwise, says_place, says_starved}
use Rattle.fl_calls.proofs.AskingLemmas.{checks_bad, checks_starved, checks_tells, checks_refuses}
use Rattle.fl_calls.proofs.asking.check.Goals as goal

spelled : {bytes : List ℕ} {packet : Packet} → (let f = packet_format (slice_index bytes 0) in
    HasPacket f packet × (packet_bytes f packet ≡ bytes)) → Spells bytes packet
spelled it = record { format = _; has = it.0; written = it.1 }

pub returns-in-Err-BadPacket-clause-checks : goal.returns-in-Err-BadPacket-clause-checks
returns-in-Err-BadPacket-clause-checks g c =
    checks_bad g.K.Keeper.custody c.args.world.now c.args.number c.args.bytes.now c.in-Err-BadPacket.field-0
    c.in-Err-BadPacket.place _ c.in-Err-BadPacket.ensures c.in-Err-BadPacket.field-0-is (cc (c.in-Err-BadPacket.place-is))

pub returns-in-Err-Memory-clause-checks : goal.returns-in-Err-Memory-clause-checks
returns-in-Err-Memory-clause-checks g c =
    checks_starved g.K.Keeper.custody c.args.world.now c.args.number c.args.bytes.now c.in-Err-Memory.field-0
    c.starved.result c.in-Err-Memory.ensures c.in-Err-Memory.field-0-is c.starved.ensures

pub returns-in-Ok-check-clause-checks : goal.returns-in-Ok-check-clause-checks
returns-in-Ok-check-clause-checks g c =
    checks_tells g.K.Keeper.custody c.args.world.now c.args.number c.args.bytes.now c.in-Some.node.now c.in-Ok.packet
    c.in-Ok-check.count c.counted.result c.in-Some.ensures (spelled c.in-Ok.ensures) c.in-Ok-check.ensures c.counted.ensures

pub returns-clause-checks : goal.returns-clause-checks
returns-clause-checks g c =
    checks_refuses g.K.Keeper.custody c.args.world.now c.args.number c.args.bytes.now c.in-Some.node.now c.in-Ok.packet
    c.in-Err.fault c.refused.result c.in-Some.ensures (spelled c.in-Ok.ensures) c.in-Err.ensures c.refused.ensures

pub returns-in-Err-BadPacket-clause-cause : goal.returns-in-Err-BadPacket-clause-cause
returns-in-Err-BadPacket-clause-cause g c = says_place _

pub returns-in-Err-Memory-clause-cause : goal.returns-in-Err-Memory-clause-cause
returns-in-Err-Memory-clause-cause g c = says_starved _ c.starved.ensures

pub returns-clause-cause : goal.returns-clause-cause
returns-clause-cause g c = checks_otherwise _ _ _ _ c.in-Err.ensures c.refused.ensures
