use Rattle.fl_wire.proofs.Spelled.{tag_is}
use Rattle.fl_wire.proofs.fields.tag_at.Goals as goal

pub returns : goal.returns
returns c =
    let e = c.in_ok-name_at.ensures in
    (e.0, e.1, (tag_is c.args.bytes.now c.args.format c.args.at c.in_ok-name_at.field-0 _ e.1 e.2).1, e.2)
