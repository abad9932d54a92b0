use Rattle.std.proofs.Common.{◌≡◌, ◌≤◌, ◌<◌, ◌+◌, ◌-◌, ℕ, get_or, length}
use Rattle.fl_ops.specs.declared.op.Op.{Op}
use Rattle.fl_sealed_packets.proofs.ours.in_a_row.Given as goal

-- those below the one place are in the row, and those from the other on are not
abbrev pub invariant-loop-low : goal.invariant-loop-low
invariant-loop-low l = record {
  order : l.low ≤ l.high;
  inside : l.high ≤ length l.ops;
  row : (k : ℕ) (d : Op) → k < l.low → (get_or l.ops k d).name.seq ≡ l.from + k;
  others : (k : ℕ) (d : Op) → l.high ≤ k → k < length l.ops → l.from + k < (get_or l.ops k d).name.seq;
}

abbrev pub decreases-loop-low : goal.decreases-loop-low
decreases-loop-low l = l.high - l.low
