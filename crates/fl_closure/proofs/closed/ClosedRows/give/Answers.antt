use Rattle.std.proofs.Common.{subst, sym, refl}
use Rattle.fl_closure.specs.declared.closed.ClosedRows.{ClosedRows}
use Rattle.fl_closure.specs.parts.Closed.{AreLed}
use Rattle.fl_closure.proofs.Giving.{on_ok, renews_all, mirrored_all}
use Rattle.fl_closure.proofs.Growing.{renews_none}
use Rattle.fl_closure.proofs.closed.ClosedRows.give.Goals as goal

pub returns-then-has-clause-ok : goal.returns-then-has-clause-ok
returns-then-has-clause-ok c =
    renews_none c.args.self.now.reached c.requires.transitive c.args.owner c.args.cap (c.has.ensures.holds c.if-has.true)

pub returns-clause-ok : goal.returns-clause-ok
returns-clause-ok c =
    let led = subst (AreLed c.args.self.now.reached c.args.cap) (sym c.deref-in-Everybody.ensures.value) c.in_ok-led.ensures in
    rw c.in-Everybody.is (on_ok c.note_all.result (renews_all c.args.self.now.reached c.note_all.new.self c.args.cap _ led) c.note_all.ensures.ok)

pub returns-clause-mirrored : goal.returns-clause-mirrored
returns-clause-mirrored c =
    let new : ClosedRows = record { reached = c.note_all.new.self; users = c.args.self.now.users; alloc = c.args.self.now.alloc } in
    on_ok c.note_all.result (mirrored_all c.args.self.now new _ c.requires.mirrored refl) c.note_all.ensures.ok
