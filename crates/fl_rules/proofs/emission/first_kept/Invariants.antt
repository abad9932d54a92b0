use Rattle.std.proofs.Common.{drop, Option}
use Rattle.std.specs.Prelude.{⊤}
use Rattle.fl_labels.specs.declared.name.Name.{Name}
use Rattle.fl_labels.specs.parts.First.{IsFirst}
use Rattle.fl_labels.specs.Caps.{Dual}
use Rattle.fl_rules.proofs.emission.first_kept.Given as goal

-- what is first in the rest is first in all
abbrev pub invariant-loop-tag : goal.invariant-loop-tag
invariant-loop-tag g l =
    let D = Dual (g.H.Has.effective l.fn.has) in
    record {
      same : g.H.Has.keeps l.fn.has l.has;
      first : (r : Option Name) → IsFirst (λ _. ⊤) D (drop l.tag-index l.tags) r → IsFirst (λ _. ⊤) D l.fn.tags r;
    }
