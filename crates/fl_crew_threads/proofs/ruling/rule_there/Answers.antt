use Rattle.std.proofs.Common.{◌≡◌, ◌∙◌, sym, subst, true, None, Some}
use Rattle.fl_crew_model.specs.Crews.{IsWorker}
use Rattle.fl_crew_threads.proofs.Going.{registers_nothing}
use Rattle.fl_crew_threads.proofs.Received.{decides_nothing}
use Rattle.fl_crew_threads.proofs.There.{told_its, told_nobody}
use Rattle.fl_crew_threads.proofs.ruling.rule_there.Goals as goal

pub returns-in_default-clause-rules : goal.returns-in_default-clause-rules
returns-in_default-clause-rules g c =
    registers_nothing g.K.Keeper.custody c.args.workers c.args.registrar.now

pub returns-in_default-clause-told : goal.returns-in_default-clause-told
returns-in_default-clause-told g c =
    told_nobody c.args.workers c.args.registrar.now c.args.ordered.place c.args.ordered.body None
    (sym c.worker_at.ensures ∙ c.in_default.is) (λ worker is. absurd (cc))

pub returns-in_default-clause-decides : goal.returns-in_default-clause-decides
returns-in_default-clause-decides g c = decides_nothing c.args.registrar.now

pub returns-then-not-is_worker-clause-rules : goal.returns-then-not-is_worker-clause-rules
returns-then-not-is_worker-clause-rules g c =
    registers_nothing g.K.Keeper.custody c.args.workers c.args.registrar.now

pub returns-then-not-is_worker-clause-told : goal.returns-then-not-is_worker-clause-told
returns-then-not-is_worker-clause-told g c =
    told_nobody c.args.workers c.args.registrar.now c.args.ordered.place c.args.ordered.body
    (Some c.in-Some.worker) (sym c.worker_at.ensures ∙ c.in-Some.is)
    (λ worker is its.
    let same : worker ≡ c.in-Some.worker = cc in
    let fine : c.is_worker.result ≡ true =
    c.is_worker.ensures.1 (subst (IsWorker c.args.workers) same its.0) in
    let wrong = c.if-not-is_worker.true in absurd (cc))

pub returns-then-not-is_worker-clause-decides : goal.returns-then-not-is_worker-clause-decides
returns-then-not-is_worker-clause-decides g c = decides_nothing c.args.registrar.now

pub returns-clause-rules : goal.returns-clause-rules
returns-clause-rules g c =
    c.rule.ensures.rules c.args.workers (c.is_worker.ensures.0 c.if-not-is_worker.false)

pub returns-clause-told : goal.returns-clause-told
returns-clause-told g c =
    let ruled = c.rule.ensures in
    told_its c.args.workers c.args.registrar.now c.args.ordered.place c.args.ordered.body
    c.rule.new.registrar c.in-Some.worker c.rule.result (sym c.worker_at.ensures ∙ c.in-Some.is)
    ruled.told ruled.stopped.0
    (λ none. ruled.stopped.1 (λ awaits.
    none (c.is_worker.ensures.0 c.if-not-is_worker.false, awaits)))
    ruled.same
