-- A set without some operations.
use Rattle.std.specs.Prelude.{Bool, not, List, [], ◌∷◌}
use Rattle.std.specs.List.{list_any}
use Rattle.std.specs.Ordering.{eq_by_cmp}
use Rattle.fl_labels.specs.SetBy as set
use Rattle.fl_labels.specs.SetBy.{SetBy}
use Rattle.fl_ops.specs.declared.op.Op.{Op}
use Rattle.fl_ops.specs.OpOrder.{op_cmp}

-- with none of these operations
abbrev pub without : SetBy op_cmp → List Op → SetBy op_cmp
without s [] = s
without s (op ∷ ops) = without (set.remove s op) ops

-- it is none of these
abbrev pub is_outside : List Op → Op → Bool
is_outside ops op = not (list_any (eq_by_cmp op_cmp op) ops)
