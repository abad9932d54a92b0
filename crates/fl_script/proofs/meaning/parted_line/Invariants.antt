use Rattle.std.proofs.Common.{◌≡◌, length, map, take}
use Rattle.fl_script.proofs.meaning.parted_line.Given as goal

-- the words are those before this one
abbrev pub invariant-loop-word : goal.invariant-loop-word
invariant-loop-word l = record {
  so_far : map (λ w. w.now) l.words.items ≡ take l.word-index (map (λ w. w.now) l.kept);
  count : length l.words.items ≡ l.word-index;
}
