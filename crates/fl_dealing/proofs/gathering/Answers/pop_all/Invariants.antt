use Rattle.std.proofs.Common.{◌≡◌, ◌+◌, ◌≤◌, List, ◌++◌, length, take, reverse, vec_len, vec_capacity}
use Rattle.fl_dealing.specs.declared.entry.Entry.{Entry}
use Rattle.fl_dealing.specs.Gathered.{IsGathered}
use Rattle.fl_dealing.specs.parts.Gathering.{said}
use Rattle.fl_dealing.proofs.gathering.Answers.pop_all.Given as goal

abbrev pub invariant-loop-place : goal.invariant-loop-place
invariant-loop-place l = record {
  count : vec_len l.entries + l.place ≡ length l.owners;
  room : length l.owners ≤ vec_capacity l.entries;
  more : (es : List Entry) → IsGathered (take l.place l.owners) (said l.self) es
      → IsGathered l.owners (said l.fn.self) (es ++ reverse l.entries.items);
  less : (es : List Entry) → IsGathered l.owners (said l.fn.self) es
      → IsGathered (take l.place l.owners) (said l.self) (take l.place es);
}
