use Rattle.std.proofs.Common.{◌≡◌, ◌∙◌, ap, Err, refl}
use Rattle.fl_system.specs.declared.answer.Fault.TheVariants.{KeeperFailed, Stopped}
use Rattle.fl_registrar.specs.Stopping.{failed_after, stopped_after}
use Rattle.fl_crew_threads.specs.Registers.{IsStoppedThere}
use Rattle.fl_crew_model.specs.declared.record.Ruling.{Ruling}
use Rattle.fl_crew_threads.proofs.Going.{registers_decision, registers_refusal, now_failed}
use Rattle.fl_crew_threads.proofs.Received.{decides_decision, decides_halt}
use Rattle.fl_worker.specs.declared.ask.Ruled.TheVariants.{Failed}
use Rattle.fl_crew_threads.proofs.ruling.rule.Goals as goal

pub returns-in-Ok-clause-rules : goal.returns-in-Ok-clause-rules
returns-in-Ok-clause-rules g c workers is =
    let e = c.in-Ok.ensures in
    registers_decision _ workers c.args.registrar.now c.decide.new.self e.number e.boot e.board e.rows
    e.own e.left e.apart e.rises e.goes _ is e.deed e.stopped e.at
    (e.ruled (λ no. absurd (cc))).has_room.runs

pub returns-in-Err-clause-rules : goal.returns-in-Err-clause-rules
returns-in-Err-clause-rules g c workers is =
    let e = c.in-Err.ensures in
    registers_refusal _ workers c.args.registrar.now c.decide.new.self e.number e.boot e.board e.rows
    e.own e.left e.apart e.rises e.goes Ruling c.in-Err.fault e.fault
    (λ is. e.same (ap Err is)) (λ is. e.failed (ap Err is)) (λ is. e.broken (ap Err is))
    (λ is before. there is) e.stopped
  where
    there : c.in-Err.fault ≡ KeeperFailed → IsStoppedThere c.decide.new.self
    there is =
        let e = c.in-Err.ensures in
        let asked = e.ruled (λ no. absurd (cc)) in
        now_failed g.K.Keeper.custody 0 c.args.registrar.now c.decide.new.self
        (record { worker = c.args.worker; place = c.args.ordered.place }) c.args.ordered.body
        asked.awaited (e.next (ap Err is)) e.number (e.failed (ap Err is))
        (e.stopped ∙ ap (λ f. stopped_after {A = Ruling} c.args.registrar.now.stopped (Err f)) is)
        (e.at ∙ ap (λ f. failed_after {A = Ruling} c.args.registrar.now.failed c.args.worker
        c.args.ordered.place (Err f)) is)

pub returns-in-Ok-clause-told : goal.returns-in-Ok-clause-told
returns-in-Ok-clause-told g c = (_, c.in-Ok.ensures.deed, refl, refl, refl)

pub returns-in-Ok-clause-decides : goal.returns-in-Ok-clause-decides
returns-in-Ok-clause-decides g c =
    decides_decision c.args.registrar.now c.decide.new.self _ c.in-Ok.ensures.deed

pub returns-in-Err-clause-decides : goal.returns-in-Err-clause-decides
returns-in-Err-clause-decides g c =
    let e = c.in-Err.ensures in
    decides_halt c.args.registrar.now c.decide.new.self c.in-Err.fault e.fault (λ is. e.same (ap Err is))
    (λ is. e.failed (ap Err is))

pub returns-in-Ok-clause-stopped : goal.returns-in-Ok-clause-stopped
returns-in-Ok-clause-stopped g c =
    (λ is. absurd (cc), λ no. absurd (no (c.in-Ok.ensures.ruled (λ is. absurd (cc)))))

pub returns-in-Err-clause-stopped : goal.returns-in-Err-clause-stopped
returns-in-Err-clause-stopped g c =
    let e = c.in-Err.ensures in (
      λ is. e.awaited.0 (let same : c.in-Err.fault ≡ Stopped = cc in ap Err same),
      λ no.
          let at = e.awaited.1 no in
          let same : c.in-Err.fault ≡ Stopped = cc in ap Failed same,
    )

pub returns-in-Ok-clause-same : goal.returns-in-Ok-clause-same
returns-in-Ok-clause-same g c = λ is. absurd (cc)

pub returns-in-Err-clause-same : goal.returns-in-Err-clause-same
returns-in-Err-clause-same g c =
    λ is. c.in-Err.ensures.same (let same : c.in-Err.fault ≡ Stopped = cc in ap Err same)
