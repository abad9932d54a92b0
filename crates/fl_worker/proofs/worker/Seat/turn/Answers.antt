use Rattle.std.proofs.Common.{◌++◌, ◌∷◌, [], subst, sym}
use Rattle.fl_replica.specs.Boards.{Front}
use Rattle.fl_worker.specs.Done.{Done}
use Rattle.fl_worker.specs.parts.Turns.{seated}
use Rattle.fl_worker.proofs.worker.Seat.turn.Goals as goal

pub returns-then-self-len-clause-done : goal.returns-then-self-len-clause-done
returns-then-self-len-clause-done g c old ts done =
    c.give_up.ensures.done old ts c.args.desk c.seen.ensures done

pub returns-clause-done : goal.returns-clause-done
returns-clause-done g c old ts done =
    subst (λ (desk : Front). Done old (ts ++ c.args.task ∷ []) (seated c.take_turn-desk.new.self desk))
    (sym c.after.ensures)
    (c.take_turn-desk.ensures.done old ts
    (subst (λ (desk : Front). Done old ts (seated c.args.self.now desk)) (sym c.before-desk.ensures) done))
