use Rattle.std.proofs.Common.{◌∙◌}
use Rattle.std.specs.Arc.{arc_slice_items}
use Rattle.fl_bench.proofs.Changes.{begun_alike, flat_behind, flat_copied}
use Rattle.fl_bench.proofs.history.History.copy.Goals as goal

pub returns : goal.returns
returns c =
    begun_alike _ _ _ _ c.in_ok-clone.ensures.cases
    (flat_behind arc_slice_items _ _ _ _
    (flat_copied arc_slice_items arc_slice_items _ _ _ _ c.in_ok-clone-2.ensures.cases.0
    c.in_ok-clone-3.ensures.cases.0)
    c.in_ok-clone-4.ensures.cases.0)
    ∙ c.self.view_is
