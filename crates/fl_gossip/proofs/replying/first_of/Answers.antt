use Rattle.std.proofs.Common.{IfOk, OnErr, ◌<◌, length, sym, subst, arith}
use Rattle.std.specs.List.Sorted.{IsStrictlySortedBy}
use Rattle.fl_opset.specs.ByNode.{all_ops}
use Rattle.fl_wire.specs.NameOrder.{by_name}
use Rattle.fl_gossip.specs.Replying.{AreInDeltas}
use Rattle.fl_gossip.proofs.Deltas.{taken_rises, filled_none, with_node, with_node_rises, wanted, node_lacks, filled_all, filled_up}
use Rattle.fl_gossip.proofs.replying.first_of.Goals as goal

pub loop-entry-init : goal.loop-entry-init
loop-entry-init c = filled_none c.args.most c.args.nodes.now _ _ c.new-deltas.ensures.items c.new-waiting.ensures.items

pub finished-requires-clause-rise : goal.finished-requires-clause-rise
finished-requires-clause-rise c =
    let up = filled_up c.args.most c.args.nodes.now c.loop-entry.entry-index _ _ _ c.loop-entry.invariant (omega (arith, c.if-left-eq0.true)) in
    subst (IsStrictlySortedBy by_name) (sym up) (taken_rises by_name c.args.most (all_ops c.args.nodes.now) c.requires)

pub returns-then-left-eq0-clause-ok : goal.returns-then-left-eq0-clause-ok
returns-then-left-eq0-clause-ok c =
    let up = filled_up c.args.most c.args.nodes.now c.loop-entry.entry-index _ _ _ c.loop-entry.invariant (omega (arith, c.if-left-eq0.true)) in
    subst (λ ops. IfOk c.finished.result (λ packets. AreInDeltas ops packets.items)) up c.finished.ensures.ok

pub returns-then-left-eq0-clause-wants : goal.returns-then-left-eq0-clause-wants
returns-then-left-eq0-clause-wants c =
    let up = filled_up c.args.most c.args.nodes.now c.loop-entry.entry-index _ _ _ c.loop-entry.invariant (omega (arith, c.if-left-eq0.true)) in
    subst (λ ops. OnErr c.finished.result (0 < length ops)) up c.finished.ensures.wants

pub fill-requires-clause-rise : goal.fill-requires-clause-rise
fill-requires-clause-rise c =
    with_node_rises c.args.most c.args.nodes.now c.loop-entry.entry-index _ _ _ c.loop-entry.invariant c.entry-item.result (omega arith) c.entry-item.is _ _ _ c.ops-ops.ensures c.min.ensures c.split_at.ensures.front c.requires

pub loop-entry-preserved : goal.loop-entry-preserved
loop-entry-preserved c =
    let e = c.in_ok-fill.ensures in
    with_node c.args.most c.args.nodes.now c.loop-entry.entry-index _ _ _ c.loop-entry.invariant c.entry-item.result (omega arith) c.entry-item.is _ _ _ c.ops-ops.ensures c.min.ensures c.split_at.ensures.front _ _ _ e.full e.whole (omega arith)

pub finished-requires-2-clause-rise : goal.finished-requires-2-clause-rise
finished-requires-2-clause-rise c =
    subst (IsStrictlySortedBy by_name) (sym (filled_all c.args.most c.args.nodes.now c.loop-entry.entry-index _ _ _ c.loop-entry.invariant (omega arith)))
    (taken_rises by_name c.args.most (all_ops c.args.nodes.now) c.requires)

pub returns-clause-ok : goal.returns-clause-ok
returns-clause-ok c =
    let whole = filled_all c.args.most c.args.nodes.now c.loop-entry.entry-index _ _ _ c.loop-entry.invariant (omega arith) in
    subst (λ ops. IfOk c.finished-2.result (λ packets. AreInDeltas ops packets.items)) whole c.finished-2.ensures.ok

pub returns-in_err-fill-clause-wants : goal.returns-in_err-fill-clause-wants
returns-in_err-fill-clause-wants c =
    wanted _ (node_lacks c.args.most c.args.nodes.now c.loop-entry.entry-index _ _ _ c.loop-entry.invariant c.entry-item.result (omega arith) c.entry-item.is _ _ _ c.ops-ops.ensures c.min.ensures c.split_at.ensures.front c.in_err-fill.ensures.wants)

pub returns-clause-wants : goal.returns-clause-wants
returns-clause-wants c =
    let whole = filled_all c.args.most c.args.nodes.now c.loop-entry.entry-index _ _ _ c.loop-entry.invariant (omega arith) in
    subst (λ ops. OnErr c.finished-2.result (0 < length ops)) whole c.finished-2.ensures.wants
