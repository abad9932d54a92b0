use Rattle.std.proofs.Common.{subst}
use Rattle.fl_file_store.specs.FileKeeping.{OpensAgain, StaysShut}
use Rattle.fl_file_store.proofs.AgainLemmas.{trusted_no_further, is_mended, is_refused, is_lost}
use Rattle.fl_file_store.proofs.file_keeper.reopened.Goals as goal

pub returns-in-Ok-outcome-clause-reopens : goal.returns-in-Ok-outcome-clause-reopens
returns-in-Ok-outcome-clause-reopens g c =
    let it = subst (λ x. OpensAgain x c.in-Ok.conn) c.into_connection.ensures.same c.in-Ok.ensures.opens in
    let made = c.open_or_broken-keeper.ensures in
    is_mended c.args.broken c.open_or_broken-keeper.result.0 c.in-Ok.conn c.args.number c.requires made.number it
    (rw c.in-Ok-outcome.is at made.sound) made.leaves (λ clean. rw c.in-Ok-outcome.is at (made.opens clean))

pub returns-in-Ok-outcome-clause-honest : goal.returns-in-Ok-outcome-clause-honest
returns-in-Ok-outcome-clause-honest g c clean =
    let it = subst (λ x. OpensAgain x c.in-Ok.conn) c.into_connection.ensures.same c.in-Ok.ensures.opens in
    let made = c.open_or_broken-keeper.ensures in
    (trusted_no_further c.args.broken c.open_or_broken-keeper.result.0 c.in-Ok.conn c.args.number c.requires made.number it g.met.D.Disk.seen_may_stay made.held clean).0

pub returns-in-Ok-outcome-clause-held : goal.returns-in-Ok-outcome-clause-held
returns-in-Ok-outcome-clause-held g c clean =
    let it = subst (λ x. OpensAgain x c.in-Ok.conn) c.into_connection.ensures.same c.in-Ok.ensures.opens in
    let made = c.open_or_broken-keeper.ensures in
    (trusted_no_further c.args.broken c.open_or_broken-keeper.result.0 c.in-Ok.conn c.args.number c.requires made.number it g.met.D.Disk.seen_may_stay made.held clean).1

pub returns-in-Err-outcome-clause-reopens : goal.returns-in-Err-outcome-clause-reopens
returns-in-Err-outcome-clause-reopens g c =
    let it = subst (λ x. OpensAgain x c.in-Ok.conn) c.into_connection.ensures.same c.in-Ok.ensures.opens in
    let made = c.open_or_broken-keeper.ensures in
    is_refused c.args.broken c.open_or_broken-keeper.result.0 c.in-Ok.conn c.args.number c.requires made.number it
    c.in-Err-outcome.fault (rw c.in-Err-outcome.is at made.broken) made.leaves (λ clean. rw c.in-Err-outcome.is at (made.refuses clean))

pub returns-in-Err-outcome-clause-honest : goal.returns-in-Err-outcome-clause-honest
returns-in-Err-outcome-clause-honest g c clean =
    let it = subst (λ x. OpensAgain x c.in-Ok.conn) c.into_connection.ensures.same c.in-Ok.ensures.opens in
    let made = c.open_or_broken-keeper.ensures in
    (trusted_no_further c.args.broken c.open_or_broken-keeper.result.0 c.in-Ok.conn c.args.number c.requires made.number it g.met.D.Disk.seen_may_stay made.held clean).0

pub returns-in-Err-outcome-clause-held : goal.returns-in-Err-outcome-clause-held
returns-in-Err-outcome-clause-held g c clean =
    let it = subst (λ x. OpensAgain x c.in-Ok.conn) c.into_connection.ensures.same c.in-Ok.ensures.opens in
    let made = c.open_or_broken-keeper.ensures in
    (trusted_no_further c.args.broken c.open_or_broken-keeper.result.0 c.in-Ok.conn c.args.number c.requires made.number it g.met.D.Disk.seen_may_stay made.held clean).1

pub returns-in-Err-clause-reopens : goal.returns-in-Err-clause-reopens
returns-in-Err-clause-reopens g c =
    is_lost c.args.broken c.args.number c.in-Err.why c.requires (subst (λ x. StaysShut x c.in-Err.why) c.into_connection.ensures.same c.in-Err.ensures.shut)
