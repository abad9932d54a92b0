use Rattle.std.proofs.Common.{◌≡◌, ◌+◌, ◌*◌, ◌++◌, arith}
use Rattle.std.proofs.lemmas.Result.{err_from_is_err_and}
use Rattle.fl_wire.specs.PacketGrammar.{end_size, end_fields, content_fields, data_fields}
use Rattle.fl_wire.proofs.Faults.{is_bad_front, is_bad_same}
use Rattle.fl_wire.proofs.Walks.{are_walked, data_second, data_third}
use Rattle.fl_wire.proofs.walk.walk_data.Goals as goal

pub returns-in_err-end_at-2 : goal.returns-in_err-end_at-2
returns-in_err-end_at-2 c =
    let f = c.args.format in
    let bs = c.args.bytes.now in
    let second = 2 + (c.node_size-size.result + 9) in
    let third = 2 + 2 * (c.node_size-size.result + 9) in
    let two : second ≡ 2 + end_size f = omega (arith, c.node_size-size.ensures) in
    let three : third ≡ 2 + 2 * end_size f = omega (arith, c.node_size-size.ensures) in
    let x = c.in_err-end_at-2.field-0.0 in
    let p = err_from_is_err_and c.from_residual-in_err-end_at-2.result c.from_residual-in_err-end_at-2.ensures.1 in
    rw (p.1, p.2) (is_bad_same (data_fields f bs 2) (end_fields f bs second ++ content_fields f bs third) x
    (data_second f bs second third two three c.in_ok-end_at.ensures.0)
    (is_bad_front (end_fields f bs second) (content_fields f bs third) x c.in_err-end_at-2.ensures))

pub returns : goal.returns
returns c =
    let f = c.args.format in
    let bs = c.args.bytes.now in
    let second = 2 + (c.node_size-size.result + 9) in
    let third = 2 + 2 * (c.node_size-size.result + 9) in
    let two : second ≡ 2 + end_size f = omega (arith, c.node_size-size.ensures) in
    let three : third ≡ 2 + 2 * end_size f = omega (arith, c.node_size-size.ensures) in
    are_walked (data_fields f bs 2) (content_fields f bs third) c.walk_content.result
    (data_third f bs second third two three c.in_ok-end_at.ensures.0 c.in_ok-end_at-2.ensures.0) c.walk_content.ensures
