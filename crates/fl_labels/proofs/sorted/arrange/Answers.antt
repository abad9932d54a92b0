use Rattle.fl_labels.proofs.Arrange.{arranged}
use Rattle.fl_labels.proofs.sorted.arrange.Goals as goal

pub returns-then-not-rises : goal.returns-then-not-rises
returns-then-not-rises g c =
    arranged g.met.T.Ord.total g.T.PartialEq.eq g.met.T.Ord.matches_eq _ _ _ c.sort_unstable.ensures.permutation c.sort_unstable.ensures.sorted c.dedup.ensures.filtered
