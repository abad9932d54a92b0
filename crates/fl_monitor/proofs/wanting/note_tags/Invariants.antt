use Rattle.std.proofs.Common.{drop}
use Rattle.fl_labels.specs.Cap.{cap_cmp}
use Rattle.fl_labels.specs.SetBy.{SetBy, of_list}
use Rattle.fl_monitor.specs.parts.Gathers.{Gathers, OfMissing}
use Rattle.fl_monitor.proofs.wanting.note_tags.Given as goal

-- with what the rest adds, it has what all add
abbrev pub invariant-loop-tag : goal.invariant-loop-tag
invariant-loop-tag g l =
    let E = g.H.Has.effective l.fn.has in
    record {
      same : g.H.Has.keeps l.fn.has l.has;
      rest : (s : SetBy cap_cmp)
          → Gathers E (OfMissing l.sign (of_list (drop l.tag-index l.tags)) l.label) l.wanting s
          → Gathers E (OfMissing l.fn.sign (of_list l.fn.tags) l.fn.label) l.fn.wanting s;
    }
