use Rattle.std.proofs.Common.{◌≡◌, ◌≤◌, ◌+◌, ◌++◌, length, vec_capacity, vec_len}
use Rattle.fl_crew_calls.specs.Told.{all_sent, replies_behind}
use Rattle.fl_crew_calls.proofs.telling.tell_all.Given as goal

-- there is room for what is left, and with what is left all is told
abbrev pub invariant-loop-entry : goal.invariant-loop-entry
invariant-loop-entry l = record {
  sent_room : vec_len l.sent + length l.entry-iterator.rest.items ≤ vec_capacity l.sent;
  replies_room : vec_len l.replies + length l.entry-iterator.rest.items ≤ vec_capacity l.replies;
  sent : l.sent.items ++ all_sent l.entry-iterator.rest.items
      ≡ l.fn.sent.items ++ all_sent l.fn.entries.items;
  replies : l.replies.items ++ replies_behind l.sent.items l.entry-iterator.rest.items
      ≡ l.fn.replies.items ++ replies_behind l.fn.sent.items l.fn.entries.items;
}
