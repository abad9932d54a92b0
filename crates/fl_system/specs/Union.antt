-- What all nodes of a world have saved together.
use Rattle.std.specs.Prelude.{◌≡◌, ℕ}
use Rattle.std.specs.FinMap as map
use Rattle.std.specs.declared.option.Option.TheVariants.{Some}
use Rattle.fl_labels.specs.SetBy.{In}
use Rattle.fl_ops.specs.Registry.{Registry}
use Rattle.fl_system.specs.World.{World, KeptNode}

-- the union of the saved sets
abbrev pub Union : World → Registry
Union w op = (number : ℕ) × (s : KeptNode) × (map.get w.nodes number ≡ Some s) × In s.node.saved op
