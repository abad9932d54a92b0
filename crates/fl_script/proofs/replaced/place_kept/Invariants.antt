use Rattle.std.proofs.Common.{◌≡◌, map, take, length}
use Rattle.std.specs.List.{AllZip}
use Rattle.fl_aliases.specs.Expansion.{Expands}
use Rattle.fl_script.proofs.replaced.place_kept.Given as goal

-- the words before this one are replaced
abbrev pub invariant-loop-word : goal.invariant-loop-word
invariant-loop-word l = record {
  each : AllZip (Expands l.aliases) (take l.word-index (map (λ w. w.now) l.words)) (map (λ w. w.now) l.placed.items);
  count : length l.placed.items ≡ l.word-index;
}
