-- Which capabilities stand behind what is kept of them.
use Rattle.std.specs.Prelude.{List, [], ◌∷◌}
use Rattle.fl_labels.specs.declared.cap.Cap.{Cap}
use Rattle.fl_system.specs.declared.granted.Kept.{Kept}
use Rattle.fl_system.specs.declared.granted.Kept.TheVariants.{One, Many}

abbrev pub items : Kept → List Cap
items (One cap) = cap ∷ []
items (Many caps) = caps.items
