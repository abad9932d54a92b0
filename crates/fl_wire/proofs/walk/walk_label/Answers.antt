use Rattle.fl_wire.proofs.Walks.{label_walked}
use Rattle.fl_wire.proofs.walk.walk_label.Goals as goal

pub returns : goal.returns
returns c =
    let e = c.in_ok-short_at.ensures in
    label_walked c.args.format c.args.bytes.now c.args.at c.in_ok-short_at.field-0 c.from-count.result c.walk_tags.result e.0 e.1 c.from-count.ensures c.walk_tags.ensures
