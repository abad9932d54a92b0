use Rattle.std.proofs.Common.{subst}
use Rattle.fl_labels.specs.Found.{Tells}
use Rattle.fl_labels.specs.SetBy.{SetBy, In}
use Rattle.fl_ops.specs.OpOrder.{op_cmp}
use Rattle.fl_ops.specs.Registry.{From, Reach}
use Rattle.fl_cache.proofs.cached.CachedIndex.reaches.Goals as goal

pub returns-clause-answer : goal.returns-clause-answer
returns-clause-answer c = subst (λ (s : SetBy op_cmp). Tells c.ask.result (Reach (In s) (From c.args.root) c.args.cap)) c.self.view_is c.ask.ensures.answer
