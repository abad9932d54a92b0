use Rattle.fl_wire.proofs.Sets.{caps_found}
use Rattle.fl_wire.proofs.items.caps_at.Goals as goal

pub returns : goal.returns
returns c =
    let e = c.in_ok-byte_at.ensures in
    caps_found c.args.format c.args.bytes.now c.args.at c.in_ok-byte_at.field-0 c.from-count.result c.in_ok-caps.caps.items c.in_ok-set_of.field-0 e.0 e.1 e.3 c.from-count.ensures e.4 c.in_ok-caps.ensures c.in_ok-set_of.ensures.ok
