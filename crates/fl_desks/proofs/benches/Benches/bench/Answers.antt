use Rattle.std.proofs.Common.{◌≡◌, ◌<◌, ◌-◌, arith, length, suc, sym}
use Rattle.fl_desks.proofs.Views.{item_here, none_at_zero, none_beyond}
use Rattle.fl_desks.proofs.benches.Benches.bench.Goals as goal

pub returns-then-number-eq0 : goal.returns-then-number-eq0
returns-then-number-eq0 c =
    rw c.if-number-eq0.true (sym (none_at_zero c.args.self.now.benches))

pub returns-then-number-len : goal.returns-then-number-len
returns-then-number-len c =
    let items = c.self.inside.all.items in
    let beyond : length items < c.args.number =
    omega (arith, c.if-number-len.true, c.len.ensures, c.self.inside.all.ok) in
    rw (← c.self.view_is) (sym (none_beyond items c.args.number beyond))

pub returns : goal.returns
returns c =
    let items = c.self.inside.all.items in
    let next : suc (c.args.number - 1) ≡ c.args.number = omega (arith, c.if-number-eq0.false) in
    let inside : c.args.number - 1 < length items =
    omega (arith, c.if-number-len.false, c.len.ensures, c.if-number-eq0.false) in
    rw (← c.self.view_is)
    (sym (item_here items (c.args.number - 1) c.args.number c.index.result.now next inside
    c.index.ensures))
