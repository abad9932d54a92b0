use Rattle.std.proofs.Common.{◌∙◌}
use Rattle.fl_sql_store.proofs.RewriteLemmas.{members_none}
use Rattle.fl_sql_store.proofs.open.in_one_piece.Goals as goal

pub returns-then-is_empty-clause-ok : goal.returns-then-is_empty-clause-ok
returns-then-is_empty-clause-ok c = c.new.ensures.items ∙ members_none c.args.ops.now (c.is_empty.ensures.0 c.if-is_empty.true)
