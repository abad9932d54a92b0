-- What operations give to everybody.
use Rattle.std.specs.Prelude.{◌≡◌}
use Rattle.fl_labels.specs.declared.name.Name.{Name}
use Rattle.fl_labels.specs.declared.cap.Cap.{Cap}
use Rattle.fl_ops.specs.declared.op.Op.{Op}
use Rattle.fl_ops.specs.Registry.{Registry, IsGlobal}

-- the registry of one operation
abbrev pub Alone : Op → Registry
Alone op = λ o. o ≡ op

-- the operation of this name gives the capability to everybody by itself
abbrev pub Gives : Cap → Op → Name → Type 0
Gives c op name = IsGlobal (Alone op) c × (op.name ≡ name)

-- some operation of the registry does
abbrev pub IsGiver : Registry → Cap → Name → Type 0
IsGiver U c name = (op : Op) × U op × Gives c op name
