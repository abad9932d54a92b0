use Rattle.std.specs.Prelude.{◌≡◌, ◌++◌, take}
use Rattle.fl_closure.proofs.absorbed.Absorbed.add_all.Given as goal

-- those so far are added
abbrev pub invariant-loop-op : goal.invariant-loop-op
invariant-loop-op l = l.self ≡ l.initial.self ++ take l.op-index l.ops
