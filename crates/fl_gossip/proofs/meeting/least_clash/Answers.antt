use Rattle.std.proofs.Common.{sym, subst, arith}
use Rattle.std.specs.List.Sorted.{IsStrictlySortedBy}
use Rattle.fl_labels.specs.SetBy.{In}
use Rattle.fl_ops.specs.OpOrder.{op_cmp}
use Rattle.fl_ops.specs.Registry.{Listed}
use Rattle.fl_gossip.specs.Meeting.{FindsLeast, IsClashOf}
use Rattle.fl_gossip.proofs.Meetings.{IsClean, so_far_none, so_far_more, all_clean, own_rise, own_number, least_at_entry, first_of_nodes}
use Rattle.fl_gossip.proofs.meeting.least_clash.Goals as goal

pub loop-entry-init : goal.loop-entry-init
loop-entry-init c = so_far_none (IsClean (In c.args.theirs.now)) c.by_node-entry-items.result.now

pub clash_between-clash-requires-clause-ours : goal.clash_between-clash-requires-clause-ours
clash_between-clash-requires-clause-ours c =
    let by = c.by_node-entry-items.ensures in
    subst (IsStrictlySortedBy op_cmp) (sym c.ops.ensures) (own_rise (In c.args.theirs.now) c.by_node-entry-items.result.now c.args.ours.now by.whole by.by_node c.loop-entry.entry-index c.entry-item.result (omega arith) c.entry-item.is)

pub loop-entry-preserved : goal.loop-entry-preserved
loop-entry-preserved c =
    let V = In c.args.theirs.now in
    let by = c.by_node-entry-items.ensures in
    let nodes = c.by_node-entry-items.result.now in
    let x = c.entry-item.result in
    let i = c.loop-entry.entry-index in
    let own = own_number V nodes c.args.ours.now by.whole by.by_node i x (omega arith) c.entry-item.is in
    let of = c.of_node.ensures in
    let least = least_at_entry c.args.theirs.now x _ _ _ own c.ops.ensures c.node.ensures of.only of.all _ c.clash_between-clash.ensures in
    so_far_more (IsClean V) nodes i x (omega arith) c.entry-item.is c.loop-entry.invariant (subst (FindsLeast (IsClashOf (Listed x.ops.items) V)) c.in_default.is least)

pub returns-in-Some : goal.returns-in-Some
returns-in-Some c =
    let V = In c.args.theirs.now in
    let by = c.by_node-entry-items.ensures in
    let nodes = c.by_node-entry-items.result.now in
    let x = c.entry-item.result in
    let i = c.loop-entry.entry-index in
    let own = own_number V nodes c.args.ours.now by.whole by.by_node i x (omega arith) c.entry-item.is in
    let of = c.of_node.ensures in
    let least = least_at_entry c.args.theirs.now x _ _ _ own c.ops.ensures c.node.ensures of.only of.all _ c.clash_between-clash.ensures in
    first_of_nodes V nodes c.args.ours.now by.whole by.by_node i x (omega arith) c.entry-item.is c.loop-entry.invariant c.in-Some.name (subst (FindsLeast (IsClashOf (Listed x.ops.items) V)) c.in-Some.is least)

pub returns : goal.returns
returns c =
    let by = c.by_node-entry-items.ensures in
    all_clean (In c.args.theirs.now) c.by_node-entry-items.result.now c.args.ours.now by.whole by.by_node c.loop-entry.entry-index (omega arith) c.loop-entry.invariant
