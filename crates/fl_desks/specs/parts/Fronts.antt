-- What a desk keeps of the list.
use Rattle.std.specs.Prelude.{◌≡◌, ◌≤◌, ℕ, List, All, map, take, length}
use Rattle.fl_ops.specs.declared.op.Op.{Op}
use Rattle.fl_desks.specs.declared.desk.Desk.{Desk}

-- the first operations, as many as it has seen
pub record IsFront (list : List Op) (desk : Desk) : Type 0 where
  pub within : desk.seen ≤ length list
  pub front : desk.list ≡ take desk.seen list

-- how much each desk sees
abbrev pub views_of : List Desk → List ℕ
views_of desks = map (λ desk. desk.seen) desks

pub record IsListing (list : List Op) (desks : List Desk) : Type 0 where
  pub few : length desks ≤ 255
  pub fronts : All (IsFront list) desks
