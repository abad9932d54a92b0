use Rattle.std.proofs.Common.{◌≡◌, take}
use Rattle.fl_seal.proofs.seal.are_same.Given as goal

-- no bit differs so far just where the fronts are the same
abbrev pub invariant-loop-at : goal.invariant-loop-at
invariant-loop-at l = record {
  same : l.differing ≡ 0 → take l.at l.one ≡ take l.at l.other;
  differs : take l.at l.one ≡ take l.at l.other → l.differing ≡ 0;
}
