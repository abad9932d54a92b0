use Rattle.std.proofs.Common.{refl}
use Rattle.fl_closure.proofs.Growing.{are_transitive}
use Rattle.fl_closure.proofs.Indexing.{of_after, closure_after, logins_after, closure_known, logins_known, closure_undone, one_is_new, on_error}
use Rattle.fl_closure.proofs.index.Index.absorb_all.Goals as goal

pub invariant_of-self : goal.invariant_of-self
invariant_of-self c =
    let known = c.knows_all.ensures.holds c.if-knows_all.true in
    record {
      is_closure = closure_known _ c.args.ops.now _ _ _ c.add_all.ensures c.self.invariant.is_closure known;
      are_logins = logins_known _ c.args.ops.now _ c.self.inside.closure _ c.add_all.ensures c.self.invariant.are_logins known;
    }

pub returns-then-knows_all-clause-ok : goal.returns-then-knows_all-clause-ok
returns-then-knows_all-clause-ok c = of_after _ c.args.ops.now _ _ c.self.view_is c.add_all.ensures

pub returns-in_err-logins-clause-absent : goal.returns-in_err-logins-clause-absent
returns-in_err-logins-clause-absent c =
    on_error c.from_residual.result (one_is_new _ c.args.ops.now _ c.self.inside.closure c.self.inside.logins c.self.view_is c.self.invariant.is_closure c.self.invariant.are_logins (c.knows_all.ensures.fails c.if-knows_all.false))

pub give_all-requires-clause-transitive : goal.give_all-requires-clause-transitive
give_all-requires-clause-transitive c = are_transitive c.self.invariant.is_closure.closed

pub invariant_of-self-in-Err : goal.invariant_of-self-in-Err
invariant_of-self-in-Err c = record {
  is_closure = closure_undone _ _ _ _ _ _ refl c.self.invariant.is_closure c.in-Err.ensures.news c.take_all.ensures;
  are_logins = c.self.invariant.are_logins;
}

pub returns-in-Err-clause-absent : goal.returns-in-Err-clause-absent
returns-in-Err-clause-absent c =
    one_is_new _ c.args.ops.now _ c.self.inside.closure c.self.inside.logins c.self.view_is c.self.invariant.is_closure c.self.invariant.are_logins (c.knows_all.ensures.fails c.if-knows_all.false)

pub invariant_of-self-in-Err-merge : goal.invariant_of-self-in-Err-merge
invariant_of-self-in-Err-merge c = rw (c.in-Err-merge.ensures.err) (record {
  is_closure = closure_undone _ _ _ _ _ _ refl c.self.invariant.is_closure c.in_default.ensures.news c.take_all-in-Err-merge.ensures;
  are_logins = c.self.invariant.are_logins;
})

pub returns-in-Err-merge-clause-absent : goal.returns-in-Err-merge-clause-absent
returns-in-Err-merge-clause-absent c =
    one_is_new _ c.args.ops.now _ c.self.inside.closure c.self.inside.logins c.self.view_is c.self.invariant.is_closure c.self.invariant.are_logins (c.knows_all.ensures.fails c.if-knows_all.false)

pub invariant_of-self-2 : goal.invariant_of-self-2
invariant_of-self-2 c = record {
  is_closure = closure_after _ c.args.ops.now _ _ _ c.add_all-2.ensures c.self.invariant.is_closure c.in_default.ensures.ok;
  are_logins = logins_after _ c.args.ops.now _ _ _ _ c.add_all-2.ensures c.self.invariant.are_logins c.in_ok-logins.ensures c.in_default-merge.ensures.ok;
}

pub returns-clause-ok : goal.returns-clause-ok
returns-clause-ok c = of_after _ c.args.ops.now _ _ c.self.view_is c.add_all-2.ensures
