use Rattle.std.proofs.Common.{◌≡◌, subst, sym}
use Rattle.fl_monitor.specs.parts.Gathers.{Gathers}
use Rattle.fl_monitor.proofs.Gathering.{added}
use Rattle.fl_monitor.proofs.wanting.note.Goals as goal

pub returns-in_ok-insert-clause-ok : goal.returns-in_ok-insert-clause-ok
returns-in_ok-insert-clause-ok g c =
    let E = g.H.Has.effective c.args.has.now in
    subst (Gathers E (λ k. k ≡ c.args.cap) c.args.wanting.now) (sym c.in_ok-insert.ensures.ok)
    (added E c.args.wanting.now c.args.cap (c.has.ensures.answer.fails c.if-not-has.true))
