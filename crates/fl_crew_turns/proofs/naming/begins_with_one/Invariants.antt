use Rattle.std.proofs.Common.{◌≡◌, ◌<◌, ℕ, List, Option, Some, slice_index_or}
use Rattle.fl_crew_turns.specs.Naming.{BeginsWith}
use Rattle.fl_crew_turns.proofs.naming.begins_with_one.Given as goal

-- the text begins with none of those that were looked at
abbrev pub invariant-loop-alias : goal.invariant-loop-alias
invariant-loop-alias l = (k : ℕ) (d : Option (List ℕ)) (alias : List ℕ) → k < l.alias-index → slice_index_or l.aliases k d ≡ Some alias → ¬ BeginsWith alias l.text
