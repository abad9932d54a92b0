-- The window that lacks everything.
use Rattle.std.specs.Prelude.{◌≡◌, []}
use Rattle.fl_opset.specs.declared.intervals.Intervals.{Intervals}
use Rattle.fl_opset.specs.Rank.{name_rank, least_rank, greatest_rank}

-- it is over all names, and has none of them
pub record IsOfNothing (w : Intervals) : Type 0 where
  pub starts : name_rank w.from ≡ least_rank
  pub ends : name_rank w.to ≡ greatest_rank
  pub none : w.spans ≡ []
