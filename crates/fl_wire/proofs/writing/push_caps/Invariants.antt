use Rattle.std.proofs.Common.{◌≡◌, ◌++◌, take}
use Rattle.std.specs.List.{flat_map}
use Rattle.fl_ops.specs.Bytes.{cap_bytes}
use Rattle.fl_ops.specs.declared.format.Format.TheVariants.{Two}
use Rattle.fl_wire.proofs.writing.push_caps.Given as goal

-- the items so far
abbrev pub invariant-loop-cap : goal.invariant-loop-cap
invariant-loop-cap l = l.out.items ≡ l.initial.out.items ++ flat_map (cap_bytes Two) (take l.cap-index l.members)
