use Rattle.fl_wire.proofs.Walks.{caps_walked}
use Rattle.fl_wire.proofs.walk.walk_caps.Goals as goal

pub returns : goal.returns
returns c =
    let e = c.in_ok-byte_at.ensures in
    caps_walked c.args.format c.args.bytes.now c.args.at c.in_ok-byte_at.field-0 c.from-count.result c.walk_each_cap.result e.0 e.1 c.from-count.ensures c.walk_each_cap.ensures
