use Rattle.std.proofs.Common.{◌+◌, length, Option}
use Rattle.std.specs.List.Sorted.{IsStrictlySortedBy}
use Rattle.fl_labels.specs.declared.name.Name.{Name}
use Rattle.fl_labels.specs.Name.{name_cmp}
use Rattle.fl_labels.specs.SetBy.{IsMissing}
use Rattle.fl_labels.specs.Found.{Found}
use Rattle.fl_labels.specs.Caps.{Dual}
use Rattle.fl_rules.specs.parts.Walk.{OnlyIn}
use Rattle.fl_rules.proofs.endpoint.first_lost.Given as goal

-- what the rest loses is what all lose
abbrev pub invariant-loop-step : goal.invariant-loop-step
invariant-loop-step g l =
    let D = Dual (g.H.Has.effective l.fn.has) in
    record {
      same : g.H.Has.keeps l.fn.has l.has;
      old_rises : IsStrictlySortedBy name_cmp l.old;
      new_rises : IsStrictlySortedBy name_cmp l.new;
      rest : (r : Option Name) → Found name_cmp (OnlyIn l.old l.new) D r
          → Found name_cmp (IsMissing l.fn.from l.fn.to) D r;
    }

abbrev pub decreases-loop-step : goal.decreases-loop-step
decreases-loop-step g l = length l.old + length l.new
