use Rattle.std.proofs.Common.{◌∙◌, ap, sym, subst, refl, Err, length}
use Rattle.fl_replica.specs.Boards.{Pressed}
use Rattle.fl_registrar.specs.Apart.{AreAwaited}
use Rattle.fl_registrar.specs.declared.parcel.Receipt.{Receipt}
use Rattle.fl_crew_threads.proofs.Going.{registers_delivery, registers_refusal, still_failed}
use Rattle.fl_crew_threads.proofs.Received.{takes_delivery, takes_halt}
use Rattle.fl_crew_threads.proofs.ruling.take.Goals as goal

pub returns-in-Ok-clause-rules : goal.returns-in-Ok-clause-rules
returns-in-Ok-clause-rules g c workers =
    let e = c.in-Ok.ensures in
    registers_delivery _ workers c.args.registrar.now c.receive.new.self e.number e.boot e.board e.rows (λ jobs awaited. e.own jobs)
    (λ jobs awaited. subst (AreAwaited jobs) (sym e.orders) awaited) e.apart e.rises e.goes _ e.deed e.stopped
    e.at (e.runs (λ no. absurd (cc))).runs

pub returns-in-Err-clause-rules : goal.returns-in-Err-clause-rules
returns-in-Err-clause-rules g c workers =
    let e = c.in-Err.ensures in
    registers_refusal _ workers c.args.registrar.now c.receive.new.self e.number e.boot e.board e.rows (λ jobs awaited. e.own jobs)
    (λ jobs awaited. subst (AreAwaited jobs) (sym e.orders) awaited) e.apart e.rises e.goes Receipt c.in-Err.fault e.fault
    (λ is. e.same (ap Err is)) (λ is. e.failed (ap Err is)) (λ is. e.broken (ap Err is))
    (λ is. still_failed g.K.Keeper.custody workers c.args.registrar.now c.receive.new.self
    (e.runs (λ no. absurd (cc))).runs
    e.at) e.stopped

pub returns-in-Ok-clause-received : goal.returns-in-Ok-clause-received
returns-in-Ok-clause-received g c =
    let e = c.in-Ok.ensures in
    let seen = ap length (c.list.ensures ∙ ap (λ (p : Pressed). p.list) c.press.ensures) in
    takes_delivery c.args.registrar.now c.receive.new.self c.args.placed _ _ e.deed refl refl
    (λ j. record { place = c.args.placed.place; answer = c.in-Ok.receipt.answer; seen = seen j })

pub returns-in-Err-clause-received : goal.returns-in-Err-clause-received
returns-in-Err-clause-received g c =
    let e = c.in-Err.ensures in
    takes_halt c.args.registrar.now c.receive.new.self c.in-Err.fault Receipt c.args.placed _ e.fault
    (λ is. e.same (ap Err is)) (λ is. e.failed (ap Err is)) (λ is. e.room.0 (ap Err is)) e.stopped refl refl
