use Rattle.std.proofs.Common.{◌≡◌, ◌≢◌, rules}
use Rattle.std.proofs.lemmas.Bool.{lt-ltb, ltb-true}
use Rattle.fl_crew_model.specs.declared.record.Deed.TheVariants.{Decided, Delivered}
use Rattle.fl_registrar.proofs.Rising.{last_of, before_another, before_packet}
use Rattle.fl_registrar.proofs.awaited.ends_before.Goals as goal

pub returns-then-decision-worker : goal.returns-then-decision-worker
returns-then-decision-worker c =
    let d = c.in-Decided.decision in
    let is : c.in-Some.deed.now ≡ Decided d = (let e = c.in-Decided.is in cc) in
    let l =
    last_of c.args.worker c.args.deeds.now c.loop-deed.rest.now c.in-Some.front.now
    c.in-Some.deed.now d c.loop-deed.invariant c.in-Some.ensures.cases.0 is
    c.if-decision-worker.true c.args.place in
    (λ t. l.1 (ltb-true d.place c.args.place t), λ h. lt-ltb d.place c.args.place (l.0 h))

pub loop-deed-preserved-else-decision-worker : goal.loop-deed-preserved-else-decision-worker
loop-deed-preserved-else-decision-worker c =
    let d = c.in-Decided.decision in
    let is : c.in-Some.deed.now ≡ Decided d = (let e = c.in-Decided.is in cc) in
    let other : d.worker ≢ c.args.worker = search rules in
    before_another c.args.worker c.args.deeds.now c.loop-deed.rest.now c.in-Some.front.now
    c.in-Some.deed.now d c.loop-deed.invariant c.in-Some.ensures.cases.0 is other

pub loop-deed-preserved : goal.loop-deed-preserved
loop-deed-preserved c =
    let p = c.in_default-deed.field-0 in
    let is : c.in-Some.deed.now ≡ Delivered p = (let e = c.in_default-deed.is in cc) in
    before_packet c.args.worker c.args.deeds.now c.loop-deed.rest.now c.in-Some.front.now
    c.in-Some.deed.now p c.loop-deed.invariant c.in-Some.ensures.cases.0 is
