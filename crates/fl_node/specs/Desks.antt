-- The desks of a node.
use Rattle.std.specs.Prelude.{◌<◌, ◌≤◌, ℕ, length}
use Rattle.fl_system.specs.State.{NodeState}

-- the node has a desk of this number, from 1 on, and as many benches as desks
pub record IsDeskOf (n : NodeState) (desk : ℕ) : Type 0 where
  pub first : 0 < desk
  pub last : desk ≤ length n.views
