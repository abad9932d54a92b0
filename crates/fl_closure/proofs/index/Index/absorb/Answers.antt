use Rattle.fl_closure.proofs.Indexing.{absorbs_ok, absent_one}
use Rattle.fl_closure.proofs.index.Index.absorb.Goals as goal

pub returns-clause-ok : goal.returns-clause-ok
returns-clause-ok c = absorbs_ok c.absorb_all.result c.args.self.now _ c.args.op.now c.absorb_all.ensures.ok

pub returns-clause-absent : goal.returns-clause-absent
returns-clause-absent c = absent_one c.absorb_all.result c.args.self.now c.args.op.now c.absorb_all.ensures.absent
