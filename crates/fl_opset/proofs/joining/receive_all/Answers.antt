use Rattle.std.proofs.Common.{◌≡◌, ℕ, get_or, ◌+◌, ◌<◌, ◌≤◌, List, length, take, refl, sym, ap, subst, Equal, arith}
use Rattle.std.specs.List.Sorted.{IsStrictlySortedBy}
use Rattle.std.specs.Ordering.{nat_cmp}
use Rattle.fl_opset.specs.declared.node_ops.NodeOps.{NodeOps}
use Rattle.fl_opset.specs.ByNode.{all_ops, node_order, AreByNode}
use Rattle.fl_opset.specs.parts.Room.{HasRoom}
use Rattle.fl_opset.proofs.ByNode.{missed_node, found_node}
use Rattle.fl_opset.proofs.JoinedNodes.{next_ready, some_entry, room_found, new_ones, few_more, joined_more, joined_all}
use Rattle.fl_opset.proofs.joining.receive_all.Goals as goal

-- what a search found is of the node
found : (ns read : List NodeOps) (node i : ℕ) (it : NodeOps) → read ≡ ns → AreByNode ns → (IsStrictlySortedBy node_order read → (d : NodeOps) → nat_cmp (get_or read i d).node node ≡ Equal)
    → it ≡ get_or ns i it → it.node ≡ node
found ns read node i it same a at is =
    let up : IsStrictlySortedBy node_order read = subst (IsStrictlySortedBy node_order) (sym same) a.rise in
    found_node ns node i it (subst (λ (l : List NodeOps). (d : NodeOps) → nat_cmp (get_or l i d).node node ≡ Equal) same (at up)) is

pub unreachable-requires : goal.unreachable-requires
unreachable-requires c =
    let ns = c.deref.result.now in
    let a : AreByNode ns = subst AreByNode (sym c.deref.ensures.value) c.loop-other.invariant.by_node in
    let room : HasRoom ns c.other-item.result = subst (λ (l : List NodeOps). HasRoom l c.other-item.result) (sym c.deref.ensures.value)
    (next_ready c.loop-other.nodes.items c.args.others.now c.loop-other.other-index c.other-item.result c.loop-other-test.true c.other-item.is c.loop-other.invariant.ready) in
    some_entry ns c.other-item.result c.in_default.field-0 room
    (missed_node ns c.other-item.result.node c.in_default.field-0 a c.in_default.ensures.bound (c.in_default.ensures.position a.rise))

pub receive-added-requires-clause-room : goal.receive-added-requires-clause-room
receive-added-requires-clause-room c =
    let ns = c.loop-other.nodes.items in
    let other = c.other-item.result in
    let it = c.index_mut.result.now in
    let inside : c.in-Ok.place < length ns = subst (λ (l : List NodeOps). c.in-Ok.place < length l) c.deref.ensures.value c.in-Ok.ensures.bound in
    let of : it.node ≡ other.node = found ns c.deref.result.now other.node c.in-Ok.place it c.deref.ensures.value c.loop-other.invariant.by_node c.in-Ok.ensures.position c.index_mut.ensures.value in
    let room : HasRoom ns other = next_ready ns c.args.others.now c.loop-other.other-index other c.loop-other-test.true c.other-item.is c.loop-other.invariant.ready in
    let fits = room_found ns other it c.in-Ok.place c.loop-other.invariant.by_node inside c.index_mut.ensures.value of room in
    omega (arith, fits, ap length c.deref-in-loop-other.ensures.value)

pub overflow_add-added : goal.overflow_add-added
overflow_add-added c =
    let other = c.other-item.result in
    let more : length (all_ops (take c.loop-other.other-index c.args.others.now)) + length other.ops.items ≤ length (all_ops c.args.others.now) = few_more c.args.others.now c.loop-other.other-index other c.loop-other-test.true c.other-item.is in
    let new : c.receive-added.result ≤ length other.ops.items = new_ones c.index_mut.result.now.ops.items c.deref-in-loop-other.result.now c.receive-added.new.own.items other.ops.items c.receive-added.result c.receive-added.ensures.merged c.deref-in-loop-other.ensures.value c.receive-added.ensures.count in
    let few : c.loop-other.added ≤ length (all_ops (take c.loop-other.other-index c.args.others.now)) = c.loop-other.invariant.few in
    omega arith

pub loop-other-preserved : goal.loop-other-preserved
loop-other-preserved c =
    let ns = c.loop-other.nodes.items in
    let other = c.other-item.result in
    let inside : c.in-Ok.place < length ns = subst (λ (l : List NodeOps). c.in-Ok.place < length l) c.deref.ensures.value c.in-Ok.ensures.bound in
    joined_more c.args.nodes.now.items ns c.args.others.now c.loop-other.other-index c.in-Ok.place c.other-item.result c.index_mut.result.now _ c.deref-in-loop-other.result.now c.loop-other.added c.receive-added.result
    c.requires.second c.loop-other-test.true c.other-item.is inside c.index_mut.ensures.value
    (found ns c.deref.result.now other.node c.in-Ok.place c.index_mut.result.now c.deref.ensures.value c.loop-other.invariant.by_node c.in-Ok.ensures.position c.index_mut.ensures.value) refl
    c.deref-in-loop-other.ensures.value c.receive-added.ensures.merged c.receive-added.ensures.count c.loop-other.invariant

pub returns-clause-merged : goal.returns-clause-merged
returns-clause-merged c =
    joined_all c.args.nodes.now.items c.args.others.now c.loop-other.nodes.items c.loop-other.added c.loop-other.other-index c.requires.first c.requires.second c.loop-other-test.false c.loop-other.invariant
