use Rattle.std.proofs.Common.{rules, ◌≡◌, ◌+◌, ◌∷◌, length, List, subst, arith}
use Rattle.fl_crew_model.specs.declared.record.Entry.{Entry}
use Rattle.fl_crew_model.specs.Compared.{decisions_of}
use Rattle.fl_crew_model.proofs.Fronts.{GoesBack, back_next, back_end}
use Rattle.fl_crew_model.proofs.Fronts.{GoesForth, forth_next, forth_stops}
use Rattle.fl_crew_model.proofs.compare.front.Goals as goal

pub returns-in_default-follow-clause-agrees : goal.returns-in_default-follow-clause-agrees
returns-in_default-follow-clause-agrees c =
    back_end c.loop-entry.need c.args.need (decisions_of c.args.worker c.loop-entry.left.now)
    (decisions_of c.args.worker c.args.deeds.now) c.loop-entry.rest.now c.args.entries.now
    c.loop-entry.good c.loop-entry.invariant.back

pub returns-in_default-follow-clause-most : goal.returns-in_default-follow-clause-most
returns-in_default-follow-clause-most c =
    let e = c.in-Some.entry.now in
    let tail = c.in-Some.tail.now in
    let split : c.loop-entry.rest.now ≡ e ∷ tail = search rules in
    let ds = decisions_of c.args.worker c.loop-entry.left.now in
    let all = decisions_of c.args.worker c.args.deeds.now in
    let forth =
    subst
    (λ (l : List Entry). GoesForth c.loop-entry.need ds l c.args.need all c.args.entries.now
    c.loop-entry.good)
    split c.loop-entry.invariant.forth in
    λ most last left within follows.
    forth_stops c.loop-entry.need c.args.need ds all e tail c.args.entries.now
    c.loop-entry.good forth c.in_default-follow.ensures.none most last left follows

pub loop-entry-preserved : goal.loop-entry-preserved
loop-entry-preserved c =
    let e = c.in-Some.entry.now in
    let tail = c.in-Some.tail.now in
    let es = c.args.entries.now in
    let good = c.loop-entry.good in
    let need = c.loop-entry.need in
    let split : c.loop-entry.rest.now ≡ e ∷ tail = search rules in
    let count : c.loop-entry.good + length c.loop-entry.rest.now ≡ length c.args.entries.now =
    c.loop-entry.invariant.count in
    let longer : length c.loop-entry.rest.now ≡ length (e ∷ tail) = search rules in
    let ds = decisions_of c.args.worker c.loop-entry.left.now in
    let behind = decisions_of c.args.worker c.in-Some-follow.behind.now in
    let all = decisions_of c.args.worker c.args.deeds.now in
    let next = c.in-Some-follow.next in
    let follows = c.in-Some-follow.ensures.some in
    record {
      count = omega (arith, count, longer);
      back =
          back_next need next c.args.need ds behind all e tail es good follows.0 follows.1
          (subst (λ (l : List Entry). GoesBack need ds l c.args.need all es good) split
          c.loop-entry.invariant.back);
      forth =
          forth_next need next c.args.need ds behind all e tail es good follows.1
          (subst (λ (l : List Entry). GoesForth need ds l c.args.need all es good) split
          c.loop-entry.invariant.forth);
    }
