use Rattle.std.specs.Prelude.{◌≡◌, false, OnErr}
use Rattle.std.specs.List.{Contains}
use Rattle.std.proofs.Common.{subst}
use Rattle.fl_labels.specs.SetBy.{SetBy, contains, of_list}
use Rattle.fl_ops.specs.declared.op.Op.{Op}
use Rattle.fl_ops.specs.OpOrder.{op_cmp}
use Rattle.fl_cache.proofs.Grown.{after_union}
use Rattle.fl_cache.proofs.cached.CachedIndex.absorb_all.Goals as goal

pub invariant_of-self : goal.invariant_of-self
invariant_of-self c = after_union _ _ _ _ _ c.self.invariant (of_list c.args.ops.now) c.absorb_all.result c.absorb_all.ensures.ok c.absorb_all.ensures.err

pub returns-clause-absent : goal.returns-clause-absent
returns-clause-absent c = subst (λ (s : SetBy op_cmp). OnErr c.absorb_all.result ((op : Op) × Contains c.args.ops.now op × (contains s op ≡ false))) c.self.view_is c.absorb_all.ensures.absent
