use Rattle.std.proofs.Common.{ap, ◌∙◌}
use Rattle.fl_labels.specs.SetBy as set
use Rattle.fl_labels.proofs.UsesKept.{apart_as}
use Rattle.fl_labels.proofs.roomy.RoomyCapSet.with_both.Goals as goal

pub invariant_of-result : goal.invariant_of-result
invariant_of-result c = apart_as _ _ _ c.put-2.ensures.rises
    (c.put-2.ensures.members ∙ ap (λ s. set.insert s c.args.first) c.put.ensures.members)
    (c.put_use-2.ensures.uses _ (c.put_use.ensures.uses _ c.self.invariant.0.apart))
    c.put-2.ensures.fits c.put_use-2.ensures.fits
