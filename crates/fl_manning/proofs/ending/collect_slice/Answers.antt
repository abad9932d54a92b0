use Rattle.std.proofs.Common.{ℕ, List, subst, sym}
use Rattle.fl_dealing.specs.Gathered.{IsGathered}
use Rattle.fl_dealing.specs.declared.entry.Entry.{Entry}
use Rattle.fl_manning.specs.Ended.{said_of}
use Rattle.fl_manning.proofs.Ends.{said_same}
use Rattle.fl_manning.proofs.ending.collect_slice.Goals as goal

pub unreachable-requires : goal.unreachable-requires
unreachable-requires c =
    let ws = c.args.workers.now in
    let taken = c.args.taken.items in
    let lanes = c.lanes_of-lanes.ensures in
    let all = c.requires.answered in
    let same = said_same c.lanes_of-lanes.result.items ws taken lanes.count lanes.entries in
    let found = c.law_gathered.ensures all.workers all.procs all.items (said_of ws taken) all.answered in
    c.in_default.ensures.none found.0
    (subst (λ (said : ℕ → List Entry). IsGathered c.args.owners.now said found.0) (sym same)
    (subst (λ (os : List ℕ). IsGathered os (said_of ws taken) found.0) (sym all.owners_are) found.1))

pub returns-clause-gathered : goal.returns-clause-gathered
returns-clause-gathered c =
    let lanes = c.lanes_of-lanes.ensures in
    let same =
    said_same c.lanes_of-lanes.result.items c.args.workers.now c.args.taken.items lanes.count
    lanes.entries in
    subst (λ (said : ℕ → List Entry). IsGathered c.args.owners.now said c.in-Some.entries.items) same
    c.in-Some.ensures.gathered
