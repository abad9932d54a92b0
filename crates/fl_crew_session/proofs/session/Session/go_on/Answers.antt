use Rattle.fl_crew_session.proofs.Turning.{turn_fills, turn_waits}
use Rattle.fl_crew_session.proofs.session.Session.go_on.Goals as goal

pub returns-then-not-is_full : goal.returns-then-not-is_full
returns-then-not-is_full g c =
    let task = c.args.task in
    let goes = rw (← c.self.view_is) at c.requires in
    rw (c.none.ensures, ← c.self.view_is) (λ bytes unnamed says.
    turn_waits _ bytes task.node task.job task.alias unnamed says goes c.go_on.ensures c.if-not-is_full.ensures)

pub returns : goal.returns
returns g c =
    let task = c.args.task in
    let goes = rw (← c.self.view_is) at c.requires in
    rw (← c.self.view_is) (λ bytes unnamed says.
    turn_fills _ bytes task.node task.job task.alias unnamed says goes c.go_on.ensures c.if-not-is_full.ensures c.end_held-replies.ensures.ends)
