use Rattle.std.proofs.Common.{◌≡◌, ◌≤◌, ◌+◌, length}
use Rattle.fl_crew_turns.specs.Held.{count_set}
use Rattle.fl_crew_turns.specs.Naming.{named_all}
use Rattle.fl_crew_turns.proofs.naming.settle_all.Given as goal

-- what is left to be set gives the table that all give, and there is room for it
abbrev pub invariant-loop-alias : goal.invariant-loop-alias
invariant-loop-alias l = record {
  can : (goal.iterator-loop-alias).can_next l.alias-iterator;
  ends : (goal.iterator-loop-alias).is_finite l.alias-iterator;
  table : named_all l.aliases.table l.alias-iterator.a.rest.now l.alias-iterator.b.rest.now ≡ named_all l.fn.aliases.table l.new l.replies;
  room : count_set l.alias-iterator.a.rest.now ≤ l.aliases.room;
  few : length l.aliases.table + count_set l.alias-iterator.a.rest.now ≤ 1024;
}
