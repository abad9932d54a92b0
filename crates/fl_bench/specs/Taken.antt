-- The capabilities that an order takes, as they are listed.
use Rattle.std.specs.Prelude.{List, []}
use Rattle.fl_labels.specs.declared.cap.Cap.{Cap}
use Rattle.fl_bench.specs.declared.taken.Taken.{Taken}
use Rattle.fl_bench.specs.declared.taken.Taken.TheVariants.{Nothing, One, Two}

abbrev pub caps_in : Taken → List Cap
caps_in Nothing = []
caps_in (One caps) = caps
caps_in (Two caps) = caps
