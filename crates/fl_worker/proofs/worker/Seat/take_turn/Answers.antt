use Rattle.std.proofs.Common.{refl, ◌∙◌}
use Rattle.fl_worker.specs.parts.Turns.{seated}
use Rattle.fl_worker.proofs.Doing.{turn_done}
use Rattle.fl_worker.proofs.worker.Seat.take_turn.Goals as goal

pub returns-clause-done : goal.returns-clause-done
returns-clause-done g c old ts done =
    let seat = c.args.self.now in
    turn_done old (seated seat c.args.desk) _ ts c.args.task c.serve_one-desk.result.1 done
    (c.requires.goes_on ∙ seat.entries.ok.0) refl c.serve_one-desk.ensures.board
    c.serve_one-desk.ensures.later c.serve_one-desk.ensures.entry c.keep.ensures.entry
