use Rattle.std.proofs.Common.{◌≡◌, ◌+◌, ◌*◌, slice_index, ◌∙◌, arith}
use Rattle.std.proofs.lemmas.Result.{err_from_is_err_and}
use Rattle.fl_ops.specs.Bytes.{cap_size}
use Rattle.fl_wire.specs.PacketGrammar.{caps_fields, after_caps, payload_fields, message_kept}
use Rattle.fl_wire.proofs.Faults.{bad_front, bad_more}
use Rattle.fl_wire.proofs.Parts.{message_found, message_bad}
use Rattle.fl_wire.proofs.reading.message_at.Goals as goal

pub returns-in_err-caps : goal.returns-in_err-caps
returns-in_err-caps c =
    let f = c.args.format in
    let bs = c.args.bytes.now in
    let p = err_from_is_err_and c.from_residual.result c.from_residual.ensures.1 in
    let x = c.in_err-caps.field-0.0 in
    let kept = message_kept f bs c.args.at in
    rw (p.1, p.2) (bad_front kept (caps_fields f bs c.args.at) (payload_fields bs (after_caps f bs c.args.at)) x
    (bad_more (slice_index bs c.args.at) kept (caps_fields f bs c.args.at) x (omega arith) c.in_err-caps.ensures))

pub returns-in_err-payload : goal.returns-in_err-payload
returns-in_err-payload c =
    let f = c.args.format in
    let p = err_from_is_err_and c.from_residual-in_err-payload.result c.from_residual-in_err-payload.ensures.1 in
    let e = c.in_ok-caps.ensures in
    let size : c.sized.result ≡ cap_size f * slice_index c.args.bytes.now c.args.at = c.sized.ensures ∙ (λ i. c.cap_size.ensures i * (c.len.ensures ∙ e.2) i) in
    let next : c.args.at + (1 + c.sized.result) ≡ after_caps f c.args.bytes.now c.args.at = omega (arith, size) in
    rw (p.1, p.2) (message_bad f c.args.bytes.now c.args.at _ next e.0 c.in_err-payload.field-0.0 c.in_err-payload.ensures)

pub returns : goal.returns
returns c =
    let f = c.args.format in
    let e = c.in_ok-caps.ensures in
    let k = c.in_ok-payload.ensures in
    let size : c.sized.result ≡ cap_size f * slice_index c.args.bytes.now c.args.at = c.sized.ensures ∙ (λ i. c.cap_size.ensures i * (c.len.ensures ∙ e.2) i) in
    let next : c.args.at + (1 + c.sized.result) ≡ after_caps f c.args.bytes.now c.args.at = omega (arith, size) in
    let found = message_found f c.args.bytes.now c.args.at _ next e.0 c.in_ok-caps.caps c.in_ok-payload.payload e.4 k.0 k.2 in
    rw c.in_ok-message.ensures (found.0, e.1, found.1)

pub returns-in_err-message : goal.returns-in_err-message
returns-in_err-message c =
    let p = err_from_is_err_and c.from_residual-in_err-message.result c.from_residual-in_err-message.ensures.1 in
    rw (p.1, p.2) (omega arith)
