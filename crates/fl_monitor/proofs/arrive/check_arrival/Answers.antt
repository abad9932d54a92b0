use Rattle.std.proofs.Common.{sym}
use Rattle.fl_monitor.proofs.ArrivalLemmas.{lands_nowhere, lands_unsafe, lands_full, lands}
use Rattle.fl_monitor.proofs.arrive.check_arrival.Goals as goal

pub returns-in_default : goal.returns-in_default
returns-in_default c = lands_nowhere c.args.mailbox.now c.args.data.now (sym c.in_default.ensures)

pub returns-in-Some-safe_pair : goal.returns-in-Some-safe_pair
returns-in-Some-safe_pair c = lands_unsafe c.args.mailbox.now c.args.data.now _ (sym c.in-Some.ensures) _ _ c.end_left.ensures c.lend.ensures _ c.in-Some-safe_pair.ensures _ c.refused_entry.ensures

pub returns-then-is_full : goal.returns-then-is_full
returns-then-is_full c = lands_full c.args.mailbox.now c.args.data.now _ (sym c.in-Some.ensures) _ _ c.end_left.ensures c.lend.ensures c.in_default-safe_pair.ensures _ c.is_full.ensures c.if-is_full.true

pub returns : goal.returns
returns c = lands c.args.mailbox.now c.args.data.now _ (sym c.in-Some.ensures) _ _ c.end_left.ensures c.lend.ensures c.in_default-safe_pair.ensures _ c.is_full.ensures c.if-is_full.false
