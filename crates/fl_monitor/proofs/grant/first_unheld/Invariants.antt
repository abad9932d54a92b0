use Rattle.std.proofs.Common.{drop, Option}
use Rattle.std.specs.Prelude.{⊤}
use Rattle.fl_labels.specs.declared.cap.Cap.{Cap}
use Rattle.fl_labels.specs.parts.First.{IsFirst}
use Rattle.fl_monitor.proofs.grant.first_unheld.Given as goal

-- what is first in the rest is first in all
abbrev pub invariant-loop-cap : goal.invariant-loop-cap
invariant-loop-cap g l =
    let E = g.H.Has.effective l.fn.has in
    record {
      same : g.H.Has.keeps l.fn.has l.has;
      first : (r : Option Cap) → IsFirst (λ _. ⊤) E (drop l.cap-index l.caps) r → IsFirst (λ _. ⊤) E l.fn.caps r;
    }
