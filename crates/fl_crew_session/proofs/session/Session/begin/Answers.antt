use Rattle.std.proofs.Common.{◌∙◌, sym, true≢false}
use Rattle.fl_crew_turns.specs.Turn.{AnswersNow}
use Rattle.fl_crew_calls.specs.laws.Calling.{call_opens}
use Rattle.fl_crew_session.proofs.Turning.{begins_batch, begins_none}
use Rattle.fl_crew_session.proofs.session.Session.begin.Goals as goal
use Rattle.fl_crew_session.proofs.session.Session.begin.Goals.{in-Ok, in-Err-begin}

pub returns-then-not-has_room_for : goal.returns-then-not-has_room_for
returns-then-not-has_room_for g c =
    rw c.bad_line.ensures (AnswersNow.full (λ room.
    absurd (true≢false (sym (c.has_room_for.ensures.1 room) ∙ c.if-not-has_room_for.true))))

pub returns-in-Err : goal.returns-in-Err
returns-in-Err g c =
    let room = rw (← c.self.view_is) at (c.has_room_for.ensures.0 c.if-not-has_room_for.false) in
    let opens = call_opens g.M.K.Keeper.custody g.M.MakesKeepers.making _ _ _ _ c.in-Err.ensures.opens in
    rw (← c.self.view_is) (AnswersNow.shut room opens)

pub returns : goal.returns
returns g c =
    let room = rw (← c.self.view_is) at (c.has_room_for.ensures.0 c.if-not-has_room_for.false) in
    let none = rw (← c.self.view_is) at c.requires.none in
    let opens = call_opens g.M.K.Keeper.custody g.M.MakesKeepers.making _ _ _ _ c.in_default.ensures.opens in
    let task = c.args.task in
    rw (← c.self.view_is) (elim c.match-begin.branch [
      | in-Ok w ↦ rw w.result-is (begins_batch _ _ _ _ _ task.node task.job task.alias none room
          opens w.in-Ok.ensures.ok)
      | in-Err-begin w ↦ rw (w.result-is, w.starved.ensures) (begins_none _ _ _ _ _ task.node task.job task.alias room
          opens w.in-Err-begin.ensures.err)
    ])
