use Rattle.std.specs.Prelude.{IfSome}
use Rattle.std.proofs.Common.{subst}
use Rattle.fl_labels.specs.SetBy.{SetBy, In}
use Rattle.fl_ops.specs.OpOrder.{op_cmp}
use Rattle.fl_closure.specs.Witness.{IsWitness}
use Rattle.fl_cache.proofs.cached.CachedIndex.is_shown.Goals as goal

pub returns-in-Plus : goal.returns-in-Plus
returns-in-Plus c h =
    c.shows.ensures c.args.self.now (subst (λ (s : SetBy op_cmp). IfSome c.self.inside.adding (IsWitness (In s))) c.self.view_is c.self.invariant.adding_holds) h

pub returns-in-Minus : goal.returns-in-Minus
returns-in-Minus c h =
    c.shows-in-Minus.ensures c.args.self.now (subst (λ (s : SetBy op_cmp). IfSome c.self.inside.other (IsWitness (In s))) c.self.view_is c.self.invariant.other_holds) h
