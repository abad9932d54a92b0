use Rattle.std.proofs.Common.{refl, ◌≡◌, ap, subst, ◌∙◌, arith}
use Rattle.std.specs.List.{All}
use Rattle.std.proofs.lemmas.List.{take_all}
use Rattle.fl_opset.specs.declared.node_ops.NodeOps.{NodeOps}
use Rattle.fl_opset.specs.parts.Room.{HasRoom}
use Rattle.fl_opset.proofs.JoinedNodes.{room_kept, room_stays, room_here, same_all, same_by_node, ready_more}
use Rattle.fl_opset.proofs.joining.make_room.Goals as goal

pub returns-in_err-reserve-clause-by_node : goal.returns-in_err-reserve-clause-by_node
returns-in_err-reserve-clause-by_node c =
    same_by_node c.entry.new.nodes.items c.in_ok-place.place c.index_mut.result.now _ c.in_ok-place.ensures.bound c.index_mut.ensures.value refl c.reserve.ensures.items c.in_ok-place.ensures.by_node

pub returns-in_err-reserve-clause-same : goal.returns-in_err-reserve-clause-same
returns-in_err-reserve-clause-same c =
    same_all c.entry.new.nodes.items c.in_ok-place.place c.index_mut.result.now _ c.in_ok-place.ensures.bound c.index_mut.ensures.value refl c.reserve.ensures.items
    ∙ c.in_ok-place.ensures.same ∙ c.loop-other.invariant.1

pub loop-other-preserved : goal.loop-other-preserved
loop-other-preserved c =
    let ns = c.entry.new.nodes.items in
    let i = c.in_ok-place.place in
    let it = c.index_mut.result.now in
    let other = c.other-item.result in
    let of : it.node ≡ other.node = ap (λ (y : NodeOps). y.node) c.index_mut.ensures.value ∙ c.in_ok-place.ensures.here it in (
      same_by_node ns i it _ c.in_ok-place.ensures.bound c.index_mut.ensures.value refl c.reserve.ensures.items c.in_ok-place.ensures.by_node,
      same_all ns i it _ c.in_ok-place.ensures.bound c.index_mut.ensures.value refl c.reserve.ensures.items ∙ c.in_ok-place.ensures.same ∙ c.loop-other.invariant.1,
      ready_more c.loop-other.nodes.items _ c.args.others.now c.loop-other.other-index other c.requires.second.rise c.loop-other-test.true c.other-item.is
          (λ x less room. room_stays ns i it _ c.in_ok-place.ensures.bound c.index_mut.ensures.value refl x (omega arith) (room_kept c.loop-other.nodes.items ns x c.in_ok-place.ensures.kept room))
          c.loop-other.invariant.2
          (room_here ns i it _ c.in_ok-place.ensures.bound c.index_mut.ensures.value refl other of (omega (arith, c.in_ok-reserve.ensures.ok, other.ops.ok))),
    )

pub returns-clause-ok : goal.returns-clause-ok
returns-clause-ok c =
    subst (All (HasRoom c.loop-other.nodes.items)) (take_all c.loop-other.other-index c.args.others.now c.loop-other-test.false) c.loop-other.invariant.2
