use Rattle.fl_closure.proofs.Indexing.{told_reach}
use Rattle.fl_closure.proofs.index.Index.reaches.Goals as goal

pub returns : goal.returns
returns c =
    told_reach _ c.args.self.now _ c.self.view_is c.self.invariant.is_closure.closed c.args.root c.args.cap _ c.leads.ensures
