use Rattle.fl_closure.proofs.Indexing.{told_global}
use Rattle.fl_closure.proofs.index.Index.global.Goals as goal

pub returns : goal.returns
returns c =
    told_global _ c.args.self.now _ c.self.view_is c.self.invariant.is_closure c.args.cap _ c.has.ensures
