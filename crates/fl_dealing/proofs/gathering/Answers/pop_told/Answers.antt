use Rattle.std.proofs.Common.{arith, sym, ◌∙◌, ap, ◌++◌, ◌∷◌, [], suc, length, set, ◌<◌}
use Rattle.fl_dealing.specs.declared.gathering.Lane.{Lane}
use Rattle.fl_dealing.specs.Gathered.{said_by}
use Rattle.fl_dealing.proofs.Popped.{popped_last, popped_others}
use Rattle.fl_dealing.proofs.gathering.Answers.pop_told.Goals as goal

pub returns : goal.returns
returns c =
    let lanes = c.args.self.now.lanes.items in
    let taken = c.args.self.now.taken.items in
    let left : Lane = record { entries = c.pop.new.self } in
    let inside : c.args.index < length lanes = omega (arith, c.in_ok-lane.ensures.item.3.0) in
    record {
      last = popped_last lanes taken c.args.index c.in_ok-lane.lane.now left c.in_ok-entry.entry
          inside c.in_ok-lane.ensures.value c.in_ok-entry.ensures.items
          ∙ ap (λ e. said_by (set lanes c.args.index left) taken (suc c.args.index) ++ e ∷ [])
          (sym c.from.ensures);
      others = popped_others lanes taken c.args.index c.in_ok-lane.lane.now left
          c.in_ok-entry.entry inside c.in_ok-lane.ensures.value c.in_ok-entry.ensures.items;
    }
