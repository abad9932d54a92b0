use Rattle.std.proofs.Common.{◌≡◌, ◌+◌, ◌*◌, ◌++◌, ◌∙◌, arith}
use Rattle.std.proofs.lemmas.Result.{err_from_is_err_and}
use Rattle.fl_ops.specs.Bytes.{name_size}
use Rattle.fl_wire.specs.Fields.{short_at}
use Rattle.fl_wire.specs.PacketBytes.{label_bytes, message_bytes}
use Rattle.fl_wire.specs.PacketGrammar.{end_size, label_fields, after_label, message_fields, content_kept}
use Rattle.fl_wire.proofs.Faults.{bad_front, bad_more}
use Rattle.fl_wire.proofs.Parts.{middle_bad, last_bad, content_found, receiver_bad, content_bad, data_found}
use Rattle.fl_wire.proofs.reading.data_at.Goals as goal

pub returns-in_err-receiver : goal.returns-in_err-receiver
returns-in_err-receiver c =
    let f = c.args.format in
    let two : 2 + (c.node_size-end.result + 9) ≡ 2 + end_size f = omega (arith, c.node_size-end.ensures) in
    let three : 2 + 2 * (c.node_size-end.result + 9) ≡ 2 + 2 * end_size f = omega (arith, c.node_size-end.ensures) in
    let p = err_from_is_err_and c.from_residual-in_err-receiver.result c.from_residual-in_err-receiver.ensures.1 in
    rw (p.1, p.2) (receiver_bad f c.args.bytes.now _ _ two three c.in_ok-sender.ensures.0 c.in_err-receiver.field-0.0 c.in_err-receiver.ensures)

pub returns-in_err-secrecy : goal.returns-in_err-secrecy
returns-in_err-secrecy c =
    let f = c.args.format in
    let bs = c.args.bytes.now in
    let end = c.node_size-end.result + 9 in
    let two : 2 + (c.node_size-end.result + 9) ≡ 2 + end_size f = omega (arith, c.node_size-end.ensures) in
    let three : 2 + 2 * (c.node_size-end.result + 9) ≡ 2 + 2 * end_size f = omega (arith, c.node_size-end.ensures) in
    let x = c.in_err-secrecy.field-0.0 in
    let first = 2 + 2 * end in
    let p = err_from_is_err_and c.from_residual-in_err-secrecy.result c.from_residual-in_err-secrecy.ensures.1 in
    rw (p.1, p.2) (content_bad f bs _ _ two three c.in_ok-sender.ensures.0 x c.in_ok-receiver.ensures.0
    (bad_front (content_kept f bs first) (label_fields f bs first) (label_fields f bs (after_label f bs first) ++ message_fields f bs (after_label f bs (after_label f bs first))) x
    (bad_more (short_at bs first) (content_kept f bs first) (label_fields f bs first) x (omega arith) c.in_err-secrecy.ensures)))

pub returns-in_err-integrity : goal.returns-in_err-integrity
returns-in_err-integrity c =
    let f = c.args.format in
    let bs = c.args.bytes.now in
    let two : 2 + (c.node_size-end.result + 9) ≡ 2 + end_size f = omega (arith, c.node_size-end.ensures) in
    let three : 2 + 2 * (c.node_size-end.result + 9) ≡ 2 + 2 * end_size f = omega (arith, c.node_size-end.ensures) in
    let at = 2 + 2 * (c.node_size-end.result + 9) in
    let x = c.in_err-integrity.field-0.0 in
    let p = err_from_is_err_and c.from_residual-in_err-integrity.result c.from_residual-in_err-integrity.ensures.1 in
    let s = c.in_ok-secrecy.ensures in
    let size : c.sized.result ≡ name_size f * short_at bs at = c.sized.ensures ∙ (λ i. c.name_size.ensures i * (c.len.ensures.count ∙ s.2) i) in
    let first : at + (2 + c.sized.result) ≡ after_label f bs at = omega (arith, size) in
    rw (p.1, p.2) (content_bad f bs _ _ two three c.in_ok-sender.ensures.0 x c.in_ok-receiver.ensures.0 (middle_bad f bs at _ first s.0 x c.in_err-integrity.ensures))

pub returns-in_err-message : goal.returns-in_err-message
returns-in_err-message c =
    let f = c.args.format in
    let bs = c.args.bytes.now in
    let two : 2 + (c.node_size-end.result + 9) ≡ 2 + end_size f = omega (arith, c.node_size-end.ensures) in
    let three : 2 + 2 * (c.node_size-end.result + 9) ≡ 2 + 2 * end_size f = omega (arith, c.node_size-end.ensures) in
    let at = 2 + 2 * (c.node_size-end.result + 9) in
    let x = c.in_err-message.field-0.0 in
    let p = err_from_is_err_and c.from_residual-in_err-message.result c.from_residual-in_err-message.ensures.1 in
    let s = c.in_ok-secrecy.ensures in
    let t = c.in_ok-integrity.ensures in
    let middle = at + (2 + c.sized.result) in
    let size : c.sized.result ≡ name_size f * short_at bs at = c.sized.ensures ∙ (λ i. c.name_size.ensures i * (c.len.ensures.count ∙ s.2) i) in
    let more : c.sized-2.result ≡ name_size f * short_at bs middle = c.sized-2.ensures ∙ (λ i. c.name_size-2.ensures i * (c.len-2.ensures.count ∙ t.2) i) in
    let first : at + (2 + c.sized.result) ≡ after_label f bs at = omega (arith, size) in
    let second : middle + (2 + c.sized-2.result) ≡ after_label f bs middle = omega (arith, more) in
    rw (p.1, p.2) (content_bad f bs _ _ two three c.in_ok-sender.ensures.0 x c.in_ok-receiver.ensures.0 (last_bad f bs at middle first s.0 _ second t.0 x c.in_err-message.ensures))

pub returns : goal.returns
returns c =
    let f = c.args.format in
    let bs = c.args.bytes.now in
    let two : 2 + (c.node_size-end.result + 9) ≡ 2 + end_size f = omega (arith, c.node_size-end.ensures) in
    let three : 2 + 2 * (c.node_size-end.result + 9) ≡ 2 + 2 * end_size f = omega (arith, c.node_size-end.ensures) in
    let at = 2 + 2 * (c.node_size-end.result + 9) in
    let s = c.in_ok-secrecy.ensures in
    let t = c.in_ok-integrity.ensures in
    let m = c.in_ok-message.ensures in
    let middle = at + (2 + c.sized.result) in
    let size : c.sized.result ≡ name_size f * short_at bs at = c.sized.ensures ∙ (λ i. c.name_size.ensures i * (c.len.ensures.count ∙ s.2) i) in
    let more : c.sized-2.result ≡ name_size f * short_at bs middle = c.sized-2.ensures ∙ (λ i. c.name_size-2.ensures i * (c.len-2.ensures.count ∙ t.2) i) in
    let first : at + (2 + c.sized.result) ≡ after_label f bs at = omega (arith, size) in
    let second : middle + (2 + c.sized-2.result) ≡ after_label f bs middle = omega (arith, more) in
    let found = data_found f bs _ _ two three c.in_ok-sender.ensures.0 c.in_ok-sender.sender c.in_ok-receiver.receiver c.in_ok-sender.from.number c.in_ok-receiver.to.number
    (label_bytes f c.in_ok-secrecy.secrecy ++ (label_bytes f c.in_ok-integrity.integrity ++ message_bytes f c.in_ok-message.message))
    c.in_ok-sender.ensures.2 c.in_ok-receiver.ensures.0 c.in_ok-receiver.ensures.2
    (content_found f bs at middle first s.0 _ second t.0 c.in_ok-secrecy.secrecy c.in_ok-integrity.integrity (message_bytes f c.in_ok-message.message) s.4 t.4 m.0 m.2) in
    (found.0, record { sender = c.in_ok-sender.ensures.1; receiver = c.in_ok-receiver.ensures.1; secrecy = s.1; integrity = t.1; caps = m.1 }, found.1)
