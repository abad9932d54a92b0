use Rattle.std.proofs.Common.{sym, ap, ◌∙◌}
use Rattle.std.proofs.lemmas.Bool.{false≢true}
use Rattle.fl_labels.specs.SetBy.{contains, contains-empty}
use Rattle.fl_ops.specs.OpOrder.{op_cmp}
use Rattle.fl_cache.proofs.cached.CachedIndex.renew.Goals as goal

pub invariant_of-self : goal.invariant_of-self
invariant_of-self c = record {
  within = λ op h. absurd (false≢true (sym (contains-empty op_cmp op) ∙ ap (λ s. contains s op) (sym c.new.ensures) ∙ h));
  adding_holds = c.self.invariant.adding_holds;
  other_holds = c.self.invariant.other_holds;
}
