-- The spans that are kept beside a set.
use Rattle.std.specs.Prelude.{◌≡◌, ◌≢◌, ℕ, Bool, true, ◌&&◌, ◌⊎◌, List, length, nat_le}
use Rattle.std.specs.List.{list_any}
use Rattle.std.specs.List.Sorted.{IsStrictlySortedBy}
use Rattle.fl_labels.specs.SetBy.{In, of_list}
use Rattle.fl_labels.specs.declared.name.Name.{Name}
use Rattle.fl_ops.specs.declared.op.Op.{Op}
use Rattle.fl_ops.specs.OpOrder.{op_cmp}
use Rattle.fl_ops.specs.Registry.{Registry, Listed}
use Rattle.fl_opset.specs.declared.node_ops.NodeOps.{NodeOps}
use Rattle.fl_opset.specs.declared.span.Span.{Span}
use Rattle.fl_opset.specs.ByNode.{all_ops, AreByNode}
use Rattle.fl_opset.specs.Rank.{name_rank, last_rank, least_rank, greatest_rank}
use Rattle.fl_opset.specs.Spans.{fit}
use Rattle.fl_opset.specs.Windows.{IsName}

-- whether one of the spans has the rank
abbrev pub has_rank : List Span → ℕ → Bool
has_rank ss k = list_any (λ s. nat_le (name_rank s.first) k && nat_le k (last_rank s)) ss

-- The spans ts have the rank or not, as said, and every other one where ss have it.
pub record ChangeAt (rank : ℕ) (there : Bool) (ss ts : List Span) : Type 0 where
  pub fits : fit least_rank greatest_rank ts ≡ true
  pub here : has_rank ts rank ≡ there
  pub others : (k : ℕ) → k ≢ rank → has_rank ts k ≡ has_rank ss k

-- the spans have the names of the registry, and no others
pub record HaveNames (U : Registry) (ss : List Span) : Type 0 where
  pub only : (n : Name) → has_rank ss (name_rank n) ≡ true → IsName U n
  pub all : (n : Name) → IsName U n → has_rank ss (name_rank n) ≡ true

-- The spans ts have the names of ss and those of the operations, and no others.
pub record AddNames (ops : List Op) (ss ts : List Span) : Type 0 where
  pub fits : fit least_rank greatest_rank ts ≡ true
  pub only : (n : Name) → has_rank ts (name_rank n) ≡ true
      → (has_rank ss (name_rank n) ≡ true) ⊎ IsName (Listed ops) n
  pub old : (n : Name) → has_rank ss (name_rank n) ≡ true → has_rank ts (name_rank n) ≡ true
  pub new : (n : Name) → IsName (Listed ops) n → has_rank ts (name_rank n) ≡ true

-- The operations rise; and where the spans are known, they have just their names.
pub record AreKept (ops : List Op) (spans : List Span) (known : Bool) : Type 0 where
  pub rises : IsStrictlySortedBy op_cmp ops
  pub fits : fit least_rank greatest_rank spans ≡ true
  pub names : known ≡ true → HaveNames (In (of_list {R = op_cmp} ops)) spans

-- The entries are by node, their operations are counted, and the spans are kept beside them.
pub record AreKeptByNode (nodes : List NodeOps) (count : ℕ) (spans : List Span) (known : Bool) : Type 0 where
  pub by_node : AreByNode nodes
  pub counted : count ≡ length (all_ops nodes)
  pub kept : AreKept (all_ops nodes) spans known
