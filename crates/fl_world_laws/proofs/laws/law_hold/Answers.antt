use Rattle.fl_system_laws.specs.laws.Wholes.{idle_whole}
use Rattle.fl_world_laws.specs.laws.Keeping.{reached_kept}
use Rattle.fl_world_laws.specs.laws.Naming.{reached_named}
use Rattle.fl_world_laws.proofs.laws.law_hold.Goals as goal

pub returns : goal.returns
returns c = λ w number s op reached at idle. (
  λ i. idle_whole ((reached_kept w reached).each number s at).whole idle op i,
  λ h. ((reached_named w reached).sound number s at).1.published op h,
)
