-- How what an alias stands for is written.
use Rattle.std.specs.Prelude.{ℕ, List}
use Rattle.fl_labels.specs.Text.{name_text, pid_text, endpoint_text}
use Rattle.fl_aliases.specs.declared.target.Target.{Target}
use Rattle.fl_aliases.specs.declared.target.Target.TheVariants.{Process, Operation, Endpoint}

-- `p1.1.1`, `1.4`, `e1`
abbrev pub target_text : Target → List ℕ
target_text (Process pid) = pid_text pid
target_text (Operation name) = name_text name
target_text (Endpoint endpoint) = endpoint_text endpoint
