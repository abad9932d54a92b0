-- The order of process identifiers.
use Rattle.std.specs.declared.cmp.Ordering.{Ordering}
use Rattle.std.specs.Ordering.{nat_cmp, ordering_then}
use Rattle.fl_labels.specs.declared.pid.Pid.{Pid}

-- by node, then boot, then serial
abbrev pub pid_cmp : Pid → Pid → Ordering
pid_cmp a b = ordering_then (nat_cmp a.node b.node) (ordering_then (nat_cmp a.boot b.boot) (nat_cmp a.serial b.serial))
