-- Operations that rise: their names, and the last of a node.
use Rattle.std.proofs.Common.{◌≡◌, ◌≢◌, ℕ, ◌<◌, ◌≤◌, true, false, List, length, get_or, refl, arith, leb, Ordering, Less, Equal, Greater}
use Rattle.std.specs.List.{All}
use Rattle.std.specs.List.Sorted.{IsStrictlySortedBy, IsPartitionPoint, IsPartitionedBy}
use Rattle.std.specs.Ordering.{is_gt, is_lt, nat_cmp, ordering_then}
use Rattle.std.proofs.lemmas.Bool.Decides.{nat_tests}
use Rattle.std.proofs.lemmas.List.Sorted.{IsPartitionedBy-leb}
use Rattle.fl_labels.specs.Name.{name_cmp}
use Rattle.fl_labels.specs.declared.name.Name.{Name}
use Rattle.fl_labels.specs.NameOrder.{name_total, name_exact}
use Rattle.fl_ops.specs.declared.op.Op.{Op}
use Rattle.fl_ops.specs.OpOrder.{op_cmp}
use Rattle.fl_opset.proofs.Partition.{names_rise, below_parted, none_other}

first_part : (p q : Ordering) → ordering_then p q ≡ Less → is_gt p ≡ false
first_part Less q e = refl
first_part Equal q e = refl
first_part Greater q e = absurd (cc)

-- operations are compared by name first
pub by_name : (a b : Op) → op_cmp a b ≡ Less → is_gt (name_cmp a.name b.name) ≡ false
by_name a b e = first_part _ _ e

not_above : (m n i j : ℕ) → is_gt (ordering_then (nat_cmp m n) (nat_cmp i j)) ≡ false → (m ≤ n) × (m ≡ n → i ≤ j)
not_above m n i j h = (grind (arith, nat_tests), λ same. grind (arith, nat_tests))

module _ (xs : List Op) (up : IsStrictlySortedBy op_cmp xs) where
  pub numbers_rise : (i j : ℕ) (d : Op) → i ≤ j → j < length xs → ((get_or xs i d).name.node ≤ (get_or xs j d).name.node) × ((get_or xs i d).name.node ≡ (get_or xs j d).name.node → (get_or xs i d).name.seq ≤ (get_or xs j d).name.seq)
  numbers_rise i j d order within = not_above _ _ _ _ (names_rise op_cmp name_total (λ (op : Op). op.name) by_name xs up i j d order within)

  pub names_parted : (n : Name) → IsPartitionedBy (λ op. is_lt (name_cmp op.name n)) xs
  names_parted n = below_parted op_cmp name_total (λ (op : Op). op.name) by_name xs up n

  -- where those of x's name that stand before m are x, and no other has the name
  pub no_other : (x : Op) (start m : ℕ) → IsPartitionPoint (λ op. is_lt (name_cmp op.name x.name) ≡ true) (λ op. is_lt (name_cmp op.name x.name) ≡ false) xs start → start ≤ m → ((k : ℕ) (d : Op) → start ≤ k → k < m → get_or xs k d ≡ x) → ((d : Op) → m < length xs → (get_or xs m d).name ≢ x.name) → All (λ op. op.name ≡ x.name → op ≡ x) xs
  no_other x start m at = none_other op_cmp name_total (λ (op : Op). op.name) by_name xs up name_exact x.name start at x m

  pub nodes_parted : (node : ℕ) → IsPartitionedBy (λ op. leb op.name.node node) xs
  nodes_parted node = IsPartitionedBy-leb (λ op. op.name.node) xs node (λ i j d order within. (numbers_rise i j d order within).0)
