use Rattle.std.proofs.Common.{refl}
use Rattle.fl_crew_calls.specs.Asking.{TellsAt}
use Rattle.fl_crew_lines.proofs.Bringing.{told_nothing}
use Rattle.fl_crew_lines.proofs.asking.tell.Goals as goal

pub returns-in-Ok : goal.returns-in-Ok
returns-in-Ok g c = TellsAt.tells c.in-Some.ensures.some c.in-Ok.ensures.running c.in-Ok.ensures.ok c.send_all.ensures

pub returns-in-Err : goal.returns-in-Err
returns-in-Err g c =
    told_nothing c.args.crews.now c.args.number c.in-Some.crew.now _ c.in-Err.fault c.refused-in-Err.result refl
    c.in-Some.ensures.some (λ is. cc (c.in-Err.ensures.stopped is)) c.in-Err.ensures.err c.refused-in-Err.ensures
