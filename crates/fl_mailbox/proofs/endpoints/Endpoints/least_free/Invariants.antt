use Rattle.std.proofs.Common.{◌<◌}
use Rattle.fl_labels.specs.declared.endpoint.Endpoint.{Endpoint}
use Rattle.fl_mailbox.specs.Endpoints.{IsOpen}
use Rattle.fl_mailbox.proofs.endpoints.Endpoints.least_free.Given as goal

-- all below are open
abbrev pub invariant-loop-number : goal.invariant-loop-number
invariant-loop-number l = (e : Endpoint) → e.number < l.number → IsOpen l.fn.self e
