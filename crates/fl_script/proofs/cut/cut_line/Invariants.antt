use Rattle.std.proofs.Common.{◌≡◌, ◌<◌, ◌≤◌, ◌++◌, map, take, drop}
use Rattle.std.specs.Bool.{MatchBool}
use Rattle.std.specs.List.{All, slice_range}
use Rattle.fl_aliases.specs.Expansion.{NoDollar}
use Rattle.fl_aliases.specs.Words.{words_of}
use Rattle.fl_script.specs.parts.Cut.{NoSpace}
use Rattle.fl_script.proofs.cut.cut_line.Given as goal

-- the words are those that were cut, and those of the rest, whose first piece has no space so far
abbrev pub invariant-loop-at : goal.invariant-loop-at
invariant-loop-at g l = record {
  so_far : words_of l.line ≡ map (λ w. w.now) l.words.items ++ words_of (drop l.start l.line);
  low : l.start ≤ l.at;
  piece : NoSpace (slice_range l.line l.start l.at);
  ascii : All (λ b. b < 128) (take l.at l.line);
  dollar : MatchBool l.has_dollar (¬ NoDollar l.line) (NoDollar (take l.at l.line));
}
