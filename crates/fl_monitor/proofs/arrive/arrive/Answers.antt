use Rattle.std.proofs.Common.{◌≡◌}
use Rattle.fl_monitor.proofs.ArrivalLemmas.{comes_busy, turned_away, comes_starved, comes_in}
use Rattle.fl_monitor.proofs.arrive.arrive.Goals as goal

pub returns-in_default : goal.returns-in_default
returns-in_default c = comes_busy c.args.process.now c.args.data c.in_default.not-Idle

pub returns-in_err-check_arrival : goal.returns-in_err-check_arrival
returns-in_err-check_arrival c = turned_away c.args.process.now c.args.data _ c.in-Idle.is c.check_arrival.ensures _ c.in_err-check_arrival.was c.from_residual.result c.from_residual.ensures

pub returns-in_default-take_in : goal.returns-in_default-take_in
returns-in_default-take_in c = comes_starved c.args.process.now c.args.data _ c.in-Idle.is c.check_arrival.ensures _ c.in_ok-check_arrival.was _ c.in_default-take_in.ensures.err.1 _ c.in_default-take_in.ensures.err.0

pub returns : goal.returns
returns c =
    let handed : c.into_letter.result ≡ record { sender = c.args.data.sender; message = c.args.data.message } =
    λ i. record { sender = c.into_letter.ensures.sender i; message = c.into_letter.ensures.message i } in
    comes_in c.args.process.now c.args.data _ c.in-Idle.is c.check_arrival.ensures _ c.in_ok-check_arrival.was _ (rw (handed) at c.in-Ok.ensures.owns) _ (rw (handed) at c.in-Ok.ensures.waits)
