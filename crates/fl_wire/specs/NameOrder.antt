-- Operations by their names.
use Rattle.std.specs.declared.cmp.Ordering.{Ordering}
use Rattle.std.specs.Cmp.{IsTotalOrder}
use Rattle.std.proofs.lemmas.Cmp.{on_total}
use Rattle.fl_labels.specs.Name.{name_cmp}
use Rattle.fl_labels.specs.NameOrder.{name_total}
use Rattle.fl_ops.specs.declared.op.Op.{Op}

abbrev pub by_name : Op → Op → Ordering
by_name a b = name_cmp a.name b.name

pub by_name_total : IsTotalOrder by_name
by_name_total = on_total (λ (op : Op). op.name) name_total
