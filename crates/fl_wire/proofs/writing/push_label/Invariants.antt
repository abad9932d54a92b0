use Rattle.std.proofs.Common.{◌≡◌, ◌++◌, take}
use Rattle.std.specs.List.{flat_map}
use Rattle.fl_ops.specs.Bytes.{name_bytes}
use Rattle.fl_ops.specs.declared.format.Format.TheVariants.{Two}
use Rattle.fl_wire.proofs.writing.push_label.Given as goal

-- the items so far
abbrev pub invariant-loop-tag : goal.invariant-loop-tag
invariant-loop-tag l = l.out.items ≡ l.initial.out.items ++ flat_map (name_bytes Two) (take l.tag-index l.tags)
