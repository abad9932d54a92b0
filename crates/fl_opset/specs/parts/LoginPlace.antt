-- Where the logins of a name stand.
use Rattle.std.specs.declared.cmp.Ordering.{Ordering}
use Rattle.std.specs.Ordering.{nat_cmp, ordering_then}
use Rattle.fl_labels.specs.declared.name.Name.{Name}
use Rattle.fl_labels.specs.Name.{name_cmp}
use Rattle.fl_ops.specs.declared.op.Op.{Op}
use Rattle.fl_ops.specs.Bytes.{kind_byte}

-- how the operation stands to the logins of a name: by name, and then by kind, of which that of logins is the greatest
abbrev pub login_place : Name → Op → Ordering
login_place name op = ordering_then (name_cmp op.name name) (nat_cmp (kind_byte op.body) 4)
