use Rattle.std.proofs.Common.{subst}
use Rattle.sqlite_store.specs.FileStore.{view}
use Rattle.sqlite_trees.specs.View.{IsClean}
use Rattle.sqlite.specs.Closing.{IsCopied}
use Rattle.sqlite.specs.Files.{IsClosed, FailsToClose}
use Rattle.fl_sql_store.proofs.CloseLemmas.{holds_kept}
use Rattle.fl_sql_store.proofs.closing.SqlKeeper+FileStore+D.close.Goals as goal

pub returns-in-Ok-clause-holds : goal.returns-in-Ok-clause-holds
returns-in-Ok-clause-holds g c clean =
    holds_kept g.met.D.Disk.seen_may_stay c.args.self c.in-Ok.files
    (subst (λ conn. IsCopied conn c.in-Ok.files) c.into_connection.ensures.same (c.in-Ok.ensures.copied clean))

pub returns-in-Err-clause-fails : goal.returns-in-Err-clause-fails
returns-in-Err-clause-fails g c =
    let last = c.in-Err.left in
    let fails = subst (λ conn. IsClosed conn last × (IsClean (view last) → FailsToClose conn last c.in-Err.error))
    c.into_connection.ensures.same c.in-Err.ensures.err in
    (last, fails.0, fails.1)
