use Rattle.fl_closure.proofs.Indexing.{closure_of_none, logins_of_none}
use Rattle.fl_closure.proofs.index.Index.new.Goals as goal

pub invariant_of-result : goal.invariant_of-result
invariant_of-result c = record {
  is_closure = closure_of_none _ _ c.new-3.ensures c.new.ensures;
  are_logins = logins_of_none _ _ c.new-3.ensures c.new-2.ensures;
}
