use Rattle.fl_labels.proofs.UsesKept.{use_put, other_put}
use Rattle.fl_labels.proofs.uses.put_use.Goals as goal
use Rattle.std.proofs.Common.{sym, ◌∙◌}

pub returns-then-is_use-clause-uses : goal.returns-then-is_use-clause-uses
returns-then-is_use-clause-uses c = λ s. use_put s _ _ c.args.cap (sym c.is_use.ensures ∙ c.if-is_use.true) c.put.ensures.rises c.put.ensures.members

pub returns-else-is_use-clause-uses : goal.returns-else-is_use-clause-uses
returns-else-is_use-clause-uses c = λ s. other_put s _ c.args.cap (sym c.is_use.ensures ∙ c.if-is_use.false)
