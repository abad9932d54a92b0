use Rattle.fl_desks.proofs.Views.{changed_at, set_length}
use Rattle.fl_desks.proofs.benches.Benches.cancel.Goals as goal

pub returns-clause-benches : goal.returns-clause-benches
returns-clause-benches c =
    rw (← c.self.view_is) (changed_at _ c.self.inside.all.items c.home-place.result _ c.index_mut-bench.result.now c.cancel.new.self
    (rw (← c.self.view_is) at c.home-place.ensures.place) (rw (← c.self.view_is) at c.home-place.ensures.within) c.index_mut-bench.ensures.value c.cancel.ensures)

pub returns-clause-count : goal.returns-clause-count
returns-clause-count c = rw (← c.self.view_is) (set_length c.self.inside.all.items c.home-place.result c.cancel.new.self)
