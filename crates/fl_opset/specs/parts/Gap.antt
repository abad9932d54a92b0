-- Operations that fit between two others.
use Rattle.std.specs.Prelude.{◌≡◌, ℕ, ◌≤◌, List, length}
use Rattle.std.specs.List.{All}
use Rattle.std.specs.List.Sorted.{IsPartitionPoint}
use Rattle.std.specs.declared.cmp.Ordering.TheVariants.{Less, Greater}
use Rattle.fl_ops.specs.declared.op.Op.{Op}
use Rattle.fl_ops.specs.OpOrder.{op_cmp}

-- Of the first operations, all below the place are less than each of the second ones, and all from it on are greater.
pub record IsGap (left right : List Op) (place : ℕ) : Type 0 where
  pub inside : place ≤ length left
  pub parted : IsPartitionPoint (λ x. All (λ y. op_cmp x y ≡ Less) right) (λ x. All (λ y. op_cmp x y ≡ Greater) right) left place
