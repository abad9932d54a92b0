use Rattle.std.proofs.lemmas.Result.{err_from_is_err_and}
use Rattle.fl_wire.specs.PacketGrammar.{caps_fields, after_caps, message_fields, payload_fields}
use Rattle.fl_wire.proofs.Faults.{is_bad_front}
use Rattle.fl_wire.proofs.Walks.{are_walked, message_second}
use Rattle.fl_wire.proofs.walk.walk_message.Goals as goal

pub returns-in_err-place : goal.returns-in_err-place
returns-in_err-place c =
    let f = c.args.format in
    let bs = c.args.bytes.now in
    let p = err_from_is_err_and c.from_residual.result c.from_residual.ensures.1 in
    rw (p.1, p.2) (is_bad_front (caps_fields f bs c.args.at) (payload_fields bs (after_caps f bs c.args.at)) c.in_err-place.field-0.0 c.in_err-place.ensures)

pub returns : goal.returns
returns c =
    let f = c.args.format in
    let bs = c.args.bytes.now in
    let at = c.args.at in
    let second = c.in_ok-place.place in
    are_walked (message_fields f bs at) (payload_fields bs second) c.walk_payload.result
    (message_second f bs at second c.in_ok-place.ensures.0 c.in_ok-place.ensures.1) c.walk_payload.ensures
