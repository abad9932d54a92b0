use Rattle.std.proofs.Common.{◌∙◌, sym}
use Rattle.fl_crew_model.specs.Compared.{decisions_of}
use Rattle.fl_crew_model.proofs.Fronts.{short_of, some_left, one_left}
use Rattle.fl_crew_model.proofs.compare.agreed.Goals as goal
use Rattle.fl_crew_model.proofs.compare.agreed.Goals.{then-good-entries-via-then-good-entries}
use Rattle.fl_crew_model.proofs.compare.agreed.Goals.{then-good-entries-via-else-good-entries+then-is_some}

pub returns-then-good-entries-clause-none : goal.returns-then-good-entries-clause-none
returns-then-good-entries-clause-none c =
    let front = c.front-good.result in
    let all = decisions_of c.args.worker c.args.deeds.now in
    let left = decisions_of c.args.worker c.front-good.result.2.now in
    let es = c.args.entries.now in
    elim c.then-good-entries.branch [
      | then-good-entries-via-then-good-entries w ↦
          short_of c.args.need front.0 all es c.front-good.ensures.most w.if-good-entries.true
      | then-good-entries-via-else-good-entries+then-is_some w ↦
          let behind = decisions_of c.args.worker w.next_decision.result.2.now in
          let from = decisions_of c.args.worker w.next_decision.result.1.now in
          let over =
          one_left w.next_decision.result.0 left behind from
          (sym w.is_some.ensures ∙ w.if-is_some.true) w.next_decision.ensures.some in
          some_left c.args.need front.1 front.0 all left behind over.0 es w.if-good-entries.false
          over.1 c.front-good.ensures.agrees
    ]
