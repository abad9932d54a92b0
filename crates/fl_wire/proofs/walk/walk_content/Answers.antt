use Rattle.std.proofs.Common.{◌++◌, arith}
use Rattle.std.proofs.lemmas.Result.{err_from_is_err_and}
use Rattle.fl_wire.specs.PacketGrammar.{after_label, label_fields, message_fields, content_fields}
use Rattle.fl_wire.proofs.Faults.{is_bad_front, is_bad_same}
use Rattle.fl_wire.proofs.Walks.{are_walked, label_near, content_second, content_third}
use Rattle.fl_wire.proofs.walk.walk_content.Goals as goal

pub returns-in_err-second : goal.returns-in_err-second
returns-in_err-second c =
    let f = c.args.format in
    let bs = c.args.bytes.now in
    let next = after_label f bs c.args.at in
    let p = err_from_is_err_and c.from_residual.result c.from_residual.ensures.1 in
    rw (p.1, p.2) (is_bad_front (label_fields f bs c.args.at) (label_fields f bs next ++ message_fields f bs (after_label f bs next)) c.in_err-second.field-0.0 c.in_err-second.ensures)

pub walk_label-requires-2 : goal.walk_label-requires-2
walk_label-requires-2 c =
    let e = c.in_ok-second.ensures in
    omega (arith, c.requires, label_near c.args.format c.args.bytes.now c.args.at c.in_ok-second.second e.0 e.1)

pub walk_message-requires : goal.walk_message-requires
walk_message-requires c =
    let e = c.in_ok-second.ensures in
    let k = c.in_ok-third.ensures in
    omega (arith, c.requires, label_near c.args.format c.args.bytes.now c.args.at c.in_ok-second.second e.0 e.1, label_near c.args.format c.args.bytes.now c.in_ok-second.second c.in_ok-third.third k.0 k.1)

pub returns-in_err-third : goal.returns-in_err-third
returns-in_err-third c =
    let f = c.args.format in
    let bs = c.args.bytes.now in
    let at = c.args.at in
    let second = c.in_ok-second.second in
    let x = c.in_err-third.field-0.0 in
    let p = err_from_is_err_and c.from_residual-in_err-third.result c.from_residual-in_err-third.ensures.1 in
    let rest = message_fields f bs (after_label f bs second) in
    rw (p.1, p.2) (is_bad_same (content_fields f bs at) (label_fields f bs second ++ rest) x
    (content_second f bs at second c.in_ok-second.ensures.0 c.in_ok-second.ensures.1)
    (is_bad_front (label_fields f bs second) rest x c.in_err-third.ensures))

pub returns : goal.returns
returns c =
    let f = c.args.format in
    let bs = c.args.bytes.now in
    let at = c.args.at in
    let second = c.in_ok-second.second in
    let third = c.in_ok-third.third in
    are_walked (content_fields f bs at) (message_fields f bs third) c.walk_message.result
    (content_third f bs at second c.in_ok-second.ensures.0 c.in_ok-second.ensures.1 third c.in_ok-third.ensures.0 c.in_ok-third.ensures.1)
    c.walk_message.ensures
