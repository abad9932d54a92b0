use Rattle.std.proofs.Common.{◌≡◌, ◌≤◌, ◌++◌, map, drop}
use Rattle.std.specs.List.{slice_range, slice_split}
use Rattle.std.specs.Str.{IsCharBoundary}
use Rattle.fl_labels.specs.Words.{is_comma, NoComma}
use Rattle.fl_labels.proofs.list.read_parts.Given as goal

-- the parts are the items so far, and those of the rest, whose first piece has no comma so far
abbrev pub invariant-loop-at : goal.invariant-loop-at
invariant-loop-at g l = record {
  so_far : slice_split is_comma l.inner
      ≡ map g.T.Item.text l.items.items ++ slice_split is_comma (drop l.start l.inner);
  low : l.start ≤ l.at;
  boundary : IsCharBoundary l.inner l.start;
  piece : NoComma (slice_range l.inner l.start l.at);
}
