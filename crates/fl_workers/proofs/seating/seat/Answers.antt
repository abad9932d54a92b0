use Rattle.std.proofs.Common.{◌∙◌}
use Rattle.fl_workers.proofs.Seats.{seated_is, seats_are}
use Rattle.fl_workers.proofs.seating.seat.Goals as goal

pub invariant_of-result : goal.invariant_of-result
invariant_of-result g c =
    let made = c.in-Ok-workers_for.ensures in
    seats_are c.args.node c.args.size _ c.in-Ok-workers_for.workers.items c.new.result
    c.in-Ok-board.press c.new.ensures c.requires.some c.requires.few c.in-Ok.ensures.workers
    made.count made.numbered
    (made.boards (record { board = c.in-Ok-board.press.board; list = c.published.result.now })
    c.in-Ok-board.ensures.desks)

pub returns-clause-seated : goal.returns-clause-seated
returns-clause-seated g c =
    let made = c.in-Ok-workers_for.ensures in
    seated_is c.args.node c.args.size c.number.result c.boot.result
    c.in-Ok-workers_for.workers.items c.new.result c.in-Ok-board.press c.new.ensures
    (c.in-Ok-board.ensures.list ∙ c.published.ensures) made.count c.number.ensures.number
    c.boot.ensures.boot made.benches

pub new-requires-clause-list : goal.new-requires-clause-list
new-requires-clause-list g c = c.in-Ok-board.ensures.list ∙ c.published.ensures
