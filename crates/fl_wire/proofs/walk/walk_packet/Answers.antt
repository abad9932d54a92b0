use Rattle.std.proofs.Common.{◌≡◌, subst, rules}
use Rattle.fl_wire.specs.PacketGrammar.{kind_fields, packet_fields}
use Rattle.fl_wire.specs.parts.Walked.{AreWalked}
use Rattle.fl_wire.proofs.Heads.{packet_is}
use Rattle.fl_wire.proofs.Walks.{are_walked}
use Rattle.fl_wire.proofs.walk.walk_packet.Goals as goal

pub returns-in_default : goal.returns-in_default
returns-in_default c =
    let bs = c.args.bytes.now in
    let kind = c.in_ok-byte_at-2.field-0 in
    let f = c.format_of-format.result in
    let r = c.walk_data.result in
    let last : 4 ≡ c.in_ok-byte_at-2.field-0 = search rules in
    are_walked (packet_fields bs) (kind_fields f bs kind) r
    (packet_is bs c.in_ok-byte_at.field-0 kind f c.in_ok-byte_at.ensures c.in_ok-byte_at-2.ensures c.format_of-format.ensures)
    (subst (λ k. AreWalked (kind_fields f bs k) r) last c.walk_data.ensures)
