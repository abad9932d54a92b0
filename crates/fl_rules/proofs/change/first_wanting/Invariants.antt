use Rattle.std.proofs.Common.{◌+◌, length, Option}
use Rattle.std.specs.List.Sorted.{IsStrictlySortedBy}
use Rattle.fl_labels.specs.declared.cap.Cap.{Cap}
use Rattle.fl_labels.specs.Name.{name_cmp}
use Rattle.fl_labels.specs.Cap.{cap_cmp}
use Rattle.fl_labels.specs.Found.{Found}
use Rattle.fl_rules.specs.parts.Walk.{Turns}
use Rattle.fl_rules.proofs.change.first_wanting.Given as goal

-- what the rest wants is what all want
abbrev pub invariant-loop-step : goal.invariant-loop-step
invariant-loop-step g l =
    let E = g.H.Has.effective l.fn.has in
    record {
      same : g.H.Has.keeps l.fn.has l.has;
      old_rises : IsStrictlySortedBy name_cmp l.old;
      new_rises : IsStrictlySortedBy name_cmp l.new;
      rest : (r : Option Cap) → Found cap_cmp (Turns l.old l.new) E r → Found cap_cmp (Turns l.fn.from l.fn.to) E r;
    }

abbrev pub decreases-loop-step : goal.decreases-loop-step
decreases-loop-step g l = length l.old + length l.new
