use Rattle.std.proofs.Common.{◌∙◌, sym, ap}
use Rattle.fl_system.specs.Processes.{process_at}
use Rattle.fl_desks.proofs.Views.{item_here}
use Rattle.fl_desks.proofs.benches.Benches.process.Goals as goal

pub returns : goal.returns
returns c =
    rw (← c.self.view_is) (c.process.ensures ∙ ap (λ o. process_at o c.args.pid) (sym (item_here c.self.inside.all.items c.home.result _ c.index.result.now
    (rw (← c.self.view_is) at c.home.ensures.place) (rw (← c.self.view_is) at c.home.ensures.within) c.index.ensures)))
