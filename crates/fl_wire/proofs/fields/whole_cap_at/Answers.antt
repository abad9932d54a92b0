use Rattle.fl_wire.proofs.Spelled.{whole_cap_is}
use Rattle.fl_wire.proofs.fields.whole_cap_at.Goals as goal

pub returns-in-Ok : goal.returns-in-Ok
returns-in-Ok c =
    let e = c.in-Ok.ensures in
    let is = whole_cap_is c.args.bytes.now c.args.format c.args.at c.in-Ok.cap _ e.1 e.2 in
    (is.0, e.1, is.1, e.2)
