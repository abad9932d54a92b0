-- Operations that rise have ranks that do not fall.
use Rattle.std.proofs.Common.{◌≡◌, inl, inr, ℕ, ◌+◌, ◌-◌, ◌*◌, ◌<◌, ◌≤◌, false, List, get_or, arith}
use Rattle.std.specs.List.Sorted.{IsStrictlySortedBy, IsNonDecreasingBy}
use Rattle.std.specs.Ordering.{is_gt, nat_cmp, ordering_then}
use Rattle.std.proofs.lemmas.Bool.{cases_lt}
use Rattle.std.proofs.lemmas.Bool.Decides.{nat_tests}
use Rattle.fl_labels.specs.NameOrder.{name_total}
use Rattle.fl_ops.specs.declared.op.Op.{Op}
use Rattle.fl_ops.specs.OpOrder.{op_cmp}
use Rattle.fl_opset.specs.Rank.{op_rank}
use Rattle.fl_opset.proofs.Names.{by_name}
use Rattle.fl_opset.proofs.Partition.{names_rise}

not_above : (m n i j : ℕ) → is_gt (ordering_then (nat_cmp m n) (nat_cmp i j)) ≡ false → (m ≤ n) × (m ≡ n → i ≤ j)
not_above m n i j h = (grind (arith, nat_tests), λ same. grind (arith, nat_tests))

two_parts : (m n i j : ℕ) → i < 4294967296 → m ≤ n → (m ≡ n → i ≤ j) → m * 4294967296 + i ≤ n * 4294967296 + j
two_parts m n i j short le tie = elim (cases_lt m n) [
  | inl less ↦ omega arith
  | inr more ↦
      let same : m ≡ n = omega arith in
      let h = tie same in
      omega (arith, same, h)
]

-- operations that rise have ranks that do not fall
pub ranks_rise : (xs : List Op) → IsStrictlySortedBy op_cmp xs → IsNonDecreasingBy op_rank xs
ranks_rise xs up i j d order within =
    let a = (get_or xs i d).name in
    let b = (get_or xs j d).name in
    let h = not_above a.node b.node a.seq b.seq (names_rise op_cmp name_total (λ (op : Op). op.name) by_name xs up i j d order within) in
    two_parts (a.node - 1) (b.node - 1) a.seq b.seq a.seq_in_range.1
    (omega (arith, h.0)) (λ same. h.1 (omega (arith, same, a.node_in_range.0, b.node_in_range.0)))
