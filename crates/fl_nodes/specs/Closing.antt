-- Nodes that are closed for their keepers.
use Rattle.std.specs.Prelude.{◌≡◌, ℕ}
use Rattle.std.specs.FinMap as map
use Rattle.std.specs.Option.{option_map}
use Rattle.std.specs.Ordering.{nat_cmp}
use Rattle.std.specs.declared.option.Option.TheVariants.{Some}
use Rattle.fl_node.specs.Over.{NodeOver}

-- the node of this number leaves, and this was its keeper
pub record GivesOut {K : Type 0} (old new : map.FinMap nat_cmp (NodeOver K)) (number : ℕ) (keeper : K)
    : Type 0 where
  pub kept : option_map (λ n. n.keeper) (map.get old number) ≡ Some keeper
  pub left : new ≡ map.remove old number
