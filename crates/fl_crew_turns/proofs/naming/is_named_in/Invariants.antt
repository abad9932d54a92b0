use Rattle.std.proofs.Common.{◌↔◌, length}
use Rattle.fl_crew_turns.specs.Naming.{IsNamedIn}
use Rattle.fl_crew_turns.proofs.naming.is_named_in.Given as goal

-- an alias is named in the text just where one is in the rest
abbrev pub invariant-loop-behind : goal.invariant-loop-behind
invariant-loop-behind l = IsNamedIn l.aliases l.text ↔ IsNamedIn l.aliases l.rest

abbrev pub decreases-loop-behind : goal.decreases-loop-behind
decreases-loop-behind l = length l.rest
