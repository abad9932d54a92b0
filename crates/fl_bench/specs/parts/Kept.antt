-- Which set of capabilities stands behind what is kept of it.
use Rattle.std.specs.Prelude.{[], ◌∷◌}
use Rattle.std.specs.Arc.{arc_slice_items, arc_value}
use Rattle.fl_labels.specs.Cap.{cap_cmp}
use Rattle.fl_labels.specs.SetBy as set
use Rattle.fl_labels.specs.SetBy.{SetBy}
use Rattle.fl_bench.specs.declared.shared.Kept.{Kept}
use Rattle.fl_bench.specs.declared.shared.Kept.TheVariants.{Nothing, One, Once, Since}

abbrev pub kept_set : Kept → SetBy cap_cmp
kept_set Nothing = set.empty
kept_set (One cap) = set.of_list (cap ∷ [])
kept_set (Once caps) = set.of_list (arc_slice_items caps)
kept_set (Since history) = arc_value history
