use Rattle.fl_wire.proofs.Walks.{batch_walked}
use Rattle.fl_wire.proofs.walk.walk_batch.Goals as goal

pub returns : goal.returns
returns c =
    let e = c.in_ok-byte_at.ensures in
    batch_walked c.args.format c.args.bytes.now c.in_ok-byte_at.field-0 c.from-count.result c.walk_ops.result e.0 e.1 c.from-count.ensures c.walk_ops.ensures
