use Rattle.std.proofs.Common.{◌≡◌, sym, subst}
use Rattle.std.specs.Prelude.{IfOk, OnErr, IsSome}
use Rattle.fl_bench.specs.Process.{standing_at}
use Rattle.fl_system.specs.Processes.{process_at}
use Rattle.fl_desks.proofs.Views.{item_here}
use Rattle.fl_desks.proofs.benches.Benches.share.Goals as goal

pub returns-clause-ok : goal.returns-clause-ok
returns-clause-ok c =
    rw (← c.self.view_is) (subst (λ o. IfOk c.share.result (λ made. made ≡ standing_at (process_at o c.args.pid)))
    (sym (item_here c.self.inside.all.items c.home-place.result _ c.index_mut-bench.result.now
    (rw (← c.self.view_is) at c.home-place.ensures.place) (rw (← c.self.view_is) at c.home-place.ensures.within) c.index_mut-bench.ensures.value)) c.share.ensures.ok)

pub returns-clause-err : goal.returns-clause-err
returns-clause-err c =
    rw (← c.self.view_is) (subst (λ o. OnErr c.share.result (IsSome (process_at o c.args.pid)))
    (sym (item_here c.self.inside.all.items c.home-place.result _ c.index_mut-bench.result.now
    (rw (← c.self.view_is) at c.home-place.ensures.place) (rw (← c.self.view_is) at c.home-place.ensures.within) c.index_mut-bench.ensures.value)) c.share.ensures.err)
