-- What a step of a chain rests on, and the order of steps.
use Rattle.std.specs.declared.cmp.Ordering.{Ordering}
use Rattle.std.specs.Ordering.{ordering_then}
use Rattle.fl_labels.specs.Cap.{cap_cmp}
use Rattle.fl_labels.specs.Name.{name_cmp}
use Rattle.fl_ops.specs.declared.op.Op.{Op}
use Rattle.fl_ops.specs.declared.op.Body.TheVariants.{Put}
use Rattle.fl_chains.specs.declared.step.Step.{Step}

-- the operation that puts the capability of the step into its group
abbrev pub put_op : Step → Op
put_op s = record { name = s.name; body = Put s.group s.cap }

-- by capability, then by name
abbrev pub step_cmp : Step → Step → Ordering
step_cmp a b = ordering_then (cap_cmp a.cap b.cap)
    (ordering_then (name_cmp a.name b.name) (name_cmp a.group b.group))
