-- Names as numbers.
use Rattle.std.specs.Prelude.{ℕ, ◌+◌, ◌-◌, ◌*◌}
use Rattle.fl_labels.specs.declared.name.Name.{Name}
use Rattle.fl_ops.specs.declared.op.Op.{Op}
use Rattle.fl_opset.specs.declared.span.Span.{Span}

-- The rank of a name: 2^32 for each node before its own, and its number. No number is 0, so two names have neighbouring ranks only
-- where they are of one node and have neighbouring numbers.
abbrev pub name_rank : Name → ℕ
name_rank n = (n.node - 1) * 4294967296 + n.seq

-- those of 1.1 and 4294967295.4294967295, so that two more than the greatest is still below 2^64
abbrev pub least_rank : ℕ
least_rank = 1

abbrev pub greatest_rank : ℕ
greatest_rank = 18446744069414584319

abbrev pub op_rank : Op → ℕ
op_rank op = name_rank op.name

-- that of the last name of a span
abbrev pub last_rank : Span → ℕ
last_rank s = (s.first.node - 1) * 4294967296 + s.last
