use Rattle.std.proofs.Common.{drop}
use Rattle.fl_labels.specs.Cap.{cap_cmp}
use Rattle.fl_labels.specs.SetBy.{SetBy, In, of_list}
use Rattle.fl_monitor.specs.parts.Gathers.{Gathers}
use Rattle.fl_monitor.proofs.wanting.note_all.Given as goal

-- with what the rest adds, it has what all add
abbrev pub invariant-loop-cap : goal.invariant-loop-cap
invariant-loop-cap g l =
    let E = g.H.Has.effective l.fn.has in
    record {
      same : g.H.Has.keeps l.fn.has l.has;
      rest : (s : SetBy cap_cmp) → Gathers E (In (of_list {R = cap_cmp} (drop l.cap-index l.caps))) l.wanting s
          → Gathers E (In (of_list {R = cap_cmp} l.fn.caps)) l.fn.wanting s;
    }
