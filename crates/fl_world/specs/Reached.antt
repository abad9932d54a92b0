-- What is true of each world that nodes over keepers may be.
use Rattle.fl_store.specs.Custody.{Custody}
use Rattle.fl_system.specs.World.{World}
use Rattle.fl_nodes.specs.Over.{WorldOver}
use Rattle.fl_nodes.specs.Goes.{MayBe, AreHonest}

-- where its keepers are honest, each world that it may be has this
pub record InEach {K : Type 0} (custody : Custody K) (over : WorldOver K)
    (has : World → Type 0) : Type 0 where
  pub each : AreHonest custody over → (w : World) → MayBe custody over w → has w
