use Rattle.std.proofs.Common.{inl, sym}
use Rattle.fl_closure.proofs.Leading.{same_cap}
use Rattle.fl_closure.specs.laws.Told.{told_yes}
use Rattle.fl_closure.proofs.closed.ClosedRows.leads.Goals as goal

pub returns-then-eq : goal.returns-then-eq
returns-then-eq c = told_yes (inl (sym (same_cap c.args.root c.args.cap _ c.eq.ensures c.if-eq.true)))
