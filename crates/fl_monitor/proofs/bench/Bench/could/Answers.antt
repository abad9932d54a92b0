use Rattle.fl_monitor.proofs.ActLemmas.{answers_of}
use Rattle.fl_monitor.proofs.CouldLemmas.{arrive_could, arrive_not, member_could, proc_could, proc_not}
use Rattle.fl_monitor.proofs.bench.Bench.could.Goals as goal

pub returns-in_err-next_serial-in-Proc-clause-could : goal.returns-in_err-next_serial-in-Proc-clause-could
returns-in_err-next_serial-in-Proc-clause-could g c = rw c.in-Proc.is (proc_not c.args.guards _ c.args.self.now _ c.in_err-next_serial-in-Proc.ensures.err c.from_residual.result c.from_residual.ensures)

pub returns-in_ok-next_serial-in-Proc-clause-could : goal.returns-in_ok-next_serial-in-Proc-clause-could
returns-in_ok-next_serial-in-Proc-clause-could g c = rw c.in-Proc.is (proc_could c.args.guards _ c.args.self.now c.in_ok-next_serial-in-Proc.ensures.ok.1)

pub returns-in-Member-clause-could : goal.returns-in-Member-clause-could
returns-in-Member-clause-could g c = rw c.in-Member.is (member_could c.args.guards _ c.args.self.now c.in-Member.root c.in-Member.cap _ (answers_of c.reaches.result _ c.reply_of.ensures c.reaches.ensures.answer))

pub returns-in_err-check_arrival-in-Arrive-clause-could : goal.returns-in_err-check_arrival-in-Arrive-clause-could
returns-in_err-check_arrival-in-Arrive-clause-could g c =
    rw c.in-Arrive.is (arrive_not c.args.guards _ c.args.self.now _ c.self.view_is c.in-Arrive.message (rw c.deref.ensures at c.check_arrival.ensures) _ c.in_err-check_arrival-in-Arrive.was
    c.from_residual-in_err-check_arrival-in-Arrive.result c.from_residual-in_err-check_arrival-in-Arrive.ensures)

pub returns-in_ok-check_arrival-in-Arrive-clause-could : goal.returns-in_ok-check_arrival-in-Arrive-clause-could
returns-in_ok-check_arrival-in-Arrive-clause-could g c =
    rw c.in-Arrive.is (arrive_could c.args.guards _ c.args.self.now _ c.self.view_is c.in-Arrive.message (rw c.deref.ensures at c.check_arrival.ensures) _ c.in_ok-check_arrival-in-Arrive.was)
