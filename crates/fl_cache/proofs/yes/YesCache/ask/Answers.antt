use Rattle.std.proofs.Common.{sym, subst}
use Rattle.fl_labels.specs.Found.{Within}
use Rattle.fl_labels.specs.SetBy.{SetBy, In}
use Rattle.fl_ops.specs.OpOrder.{op_cmp}
use Rattle.fl_cache.specs.parts.Known.{AreKept}
use Rattle.fl_cache.proofs.Asked.{all_known}
use Rattle.fl_cache.proofs.yes.YesCache.ask.Goals as goal

pub answer-requires : goal.answer-requires
answer-requires c =
    let within = subst (λ (s : SetBy op_cmp). Within (In s) (In c.args.index.now)) (sym c.self.view_is) c.requires in
    subst (AreKept c.args.index.now) c.in-Some.is (all_known _ _ _ within c.self.invariant)
