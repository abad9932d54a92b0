use Rattle.std.proofs.Common.{◌≡◌, subst, sym, ap, ◌∷◌, ◌∙◌, rules}
use Rattle.std.proofs.lemmas.Result.{err_from_is_err_and}
use Rattle.fl_wire.specs.Faults.{IsBadOrMemoryAfter}
use Rattle.fl_wire.specs.PacketBytes.{data_bytes, packet_byte, packet_bytes}
use Rattle.fl_wire.specs.PacketFits.{HasData}
use Rattle.fl_wire.specs.PacketGrammar.{kind_head, kind_kept, kind_fields}
use Rattle.fl_wire.specs.declared.packet.Packet.TheVariants as kinds
use Rattle.fl_wire.proofs.Heads.{format_is, packet_bad, packet_spelled}
use Rattle.fl_wire.proofs.reading.packet_at.Goals as goal

pub returns-in_err-data_at-in_default : goal.returns-in_err-data_at-in_default
returns-in_err-data_at-in_default c =
    let bs = c.args.bytes.now in
    let b = c.in_ok-byte_at.field-0 in
    let kind = c.in_ok-byte_at-2.field-0 in
    let f = c.format_of-format.result in
    let x = c.in_err-data_at-in_default.field-0.0 in
    let last : 4 ≡ c.in_ok-byte_at-2.field-0 = search rules in
    let h = subst (λ k. IsBadOrMemoryAfter (kind_head f bs k) (kind_kept f bs k) (kind_fields f bs k) x) last c.in_err-data_at-in_default.ensures in
    let p = err_from_is_err_and c.from_residual-in_err-data_at-in_default.result c.from_residual-in_err-data_at-in_default.ensures.1 in
    rw (p.1, p.2) (packet_bad bs b kind f c.in_ok-byte_at.ensures c.in_ok-byte_at-2.ensures c.format_of-format.ensures x h)

pub returns-in_ok-data_at-in_default : goal.returns-in_ok-data_at-in_default
returns-in_ok-data_at-in_default c =
    let bs = c.args.bytes.now in
    let b = c.in_ok-byte_at.field-0 in
    let kind = c.in_ok-byte_at-2.field-0 in
    let f = c.format_of-format.result in
    let d = c.in_ok-data_at-in_default.field-0 in
    let e = c.in_ok-data_at-in_default.ensures in
    let last : 4 ≡ c.in_ok-byte_at-2.field-0 = search rules in
    let said = format_is bs b kind f c.in_ok-byte_at.ensures c.in_ok-byte_at-2.ensures c.format_of-format.ensures in
    let spelled = packet_spelled bs b kind f c.in_ok-byte_at.ensures c.in_ok-byte_at-2.ensures c.format_of-format.ensures (data_bytes f d) e.2 in
    (subst (λ g. HasData g d) said e.1, ap (λ g. packet_bytes g (kinds.Data d)) (sym said) ∙ ap (λ k. packet_byte f ∷ k ∷ data_bytes f d) last ∙ spelled)
