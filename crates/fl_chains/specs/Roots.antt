-- What chains begin with.
use Rattle.std.specs.List.{Contains}
use Rattle.fl_labels.specs.Caps.{Caps}
use Rattle.fl_labels.specs.declared.cap.Cap.TheVariants.{Use}
use Rattle.fl_ops.specs.Registry.{Registry, From, WithGlobal}
use Rattle.fl_chains.specs.declared.roots.Roots.{Roots}
use Rattle.fl_chains.specs.declared.roots.Roots.TheVariants.{Owned, Group}

-- what is owned and everybody's, or the use of one group
abbrev pub RootsOf : Registry → Roots → Caps
RootsOf U (Owned owned) = WithGlobal U (Contains owned.now)
RootsOf U (Group group) = From (Use group)
