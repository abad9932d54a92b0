use Rattle.std.proofs.Common.{◌≡◌, map, take, length}
use Rattle.std.specs.String.{string_bytes}
use Rattle.fl_script.proofs.PartWords.{Laid}
use Rattle.fl_script.proofs.replaced.build.Given as goal

-- what the words before this one become stands in the text
abbrev pub invariant-loop-word : goal.invariant-loop-word
invariant-loop-word l = record {
  laid : Laid l.aliases (take l.word-index (map (λ w. w.now) l.words)) l.lengths.items (string_bytes l.text);
  count : length l.lengths.items ≡ l.word-index;
}
