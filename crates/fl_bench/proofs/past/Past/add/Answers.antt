use Rattle.std.proofs.Common.{◌∙◌, ap}
use Rattle.fl_bench.specs.parts.Changes.{after}
use Rattle.fl_bench.proofs.Changes.{after-append}
use Rattle.fl_bench.proofs.past.Past.add.Goals as goal

pub returns-clause-ok : goal.returns-clause-ok
returns-clause-ok c =
    ap (λ l. after c.self.inside.shared l) c.in_ok-extend_from_slice.ensures.items
    ∙ after-append c.self.inside.shared c.self.inside.fresh.items c.args.changes.now
    ∙ ap (λ s. after s c.args.changes.now) c.self.view_is
