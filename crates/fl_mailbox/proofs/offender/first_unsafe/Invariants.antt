use Rattle.std.proofs.Common.{Option}
use Rattle.std.specs.FinMap as map
use Rattle.fl_rules.specs.Labels.{sets_of}
use Rattle.fl_mailbox.specs.declared.offender.Offender.{Offender}
use Rattle.fl_mailbox.proofs.Searches.{FirstOf}
use Rattle.fl_mailbox.proofs.offender.first_unsafe.Given as goal

-- what is first in the rest is first in all
abbrev pub invariant-loop-endpoint : goal.invariant-loop-endpoint
invariant-loop-endpoint g l =
    let E = g.H.Has.effective l.fn.has in
    let process = sets_of l.fn.process in
    record {
      same : g.H.Has.keeps l.fn.has l.has;
      first : (r : Option Offender) → FirstOf E process l.endpoint-iterator r
          → FirstOf E process (map.entries l.fn.endpoints) r;
    }
