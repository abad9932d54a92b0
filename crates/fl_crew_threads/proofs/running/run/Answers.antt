use denote.Param.Send.{sendable}
use Rattle.std.proofs.Crossing.{crosses}
use Rattle.fl_crew_threads.proofs.Going.{registers_more}
use Rattle.fl_crew_threads.proofs.Received.{receives_then, decides_nothing}
use Rattle.fl_crew_threads.proofs.Sent.{worker_send}
use Rattle.fl_crew_threads.proofs.running.run.Goals as goal

pub spawn_with-requires-send-F : goal.spawn_with-requires-send-F
spawn_with-requires-send-F g c κs within =
    let r = c.type_bounds.send-R in
    let s = c.type_bounds.send-G in
    let y = c.type_bounds.sync-G in search (sendable, crosses, worker_send) depth 40 fits 100000

pub spawn_with-requires-send-T : goal.spawn_with-requires-send-T
spawn_with-requires-send-T g c κs within = search (sendable, crosses, worker_send) depth 20

pub returns-then-not-any-clause-rules : goal.returns-then-not-any-clause-rules
returns-then-not-any-clause-rules g c =
    let count = c.args.lines.now.workers in
    registers_more g.K.Keeper.custody count c.args.registrar.now c.take_all.new.registrar c.rule_all.new.registrar
    (c.take_all.ensures.rules count) c.rule_all.ensures.rules

pub returns-in-Ok-clause-rules : goal.returns-in-Ok-clause-rules
returns-in-Ok-clause-rules g c =
    let count = c.args.lines.now.workers in
    registers_more g.K.Keeper.custody count c.args.registrar.now c.take_all-in-Ok.new.registrar
    c.rule_all-in-Ok.new.registrar (c.take_all-in-Ok.ensures.rules count) c.rule_all-in-Ok.ensures.rules

pub returns-in-Err-clause-rules : goal.returns-in-Err-clause-rules
returns-in-Err-clause-rules g c = c.take_all-in-Err.ensures.rules c.args.lines.now.workers

pub returns-then-not-any-clause-received : goal.returns-then-not-any-clause-received
returns-then-not-any-clause-received g c =
    receives_then c.args.packets.items c.args.taken.now.items c.take_all.new.taken.items c.args.registrar.now
    c.take_all.new.registrar c.rule_all.new.registrar c.take_all.ensures.received c.rule_all.ensures.decides
    c.rule_all.ensures.rules.room

pub returns-in-Ok-clause-received : goal.returns-in-Ok-clause-received
returns-in-Ok-clause-received g c =
    receives_then c.args.packets.items c.args.taken.now.items c.take_all-in-Ok.new.taken.items
    c.args.registrar.now c.take_all-in-Ok.new.registrar c.rule_all-in-Ok.new.registrar
    c.take_all-in-Ok.ensures.received c.rule_all-in-Ok.ensures.decides c.rule_all-in-Ok.ensures.rules.room

pub returns-in-Err-clause-received : goal.returns-in-Err-clause-received
returns-in-Err-clause-received g c =
    let last = c.take_all-in-Err.new.registrar in
    receives_then c.args.packets.items c.args.taken.now.items c.take_all-in-Err.new.taken.items
    c.args.registrar.now last last c.take_all-in-Err.ensures.received (decides_nothing last) (λ room. room)
