use Rattle.std.proofs.Common.{arith}
use Rattle.fl_ops.specs.Registry.{Listed}
use Rattle.fl_gossip.proofs.Fronts.{left_all, left_more, left_from, same_left, ops_rise, none_named}
use Rattle.fl_gossip.proofs.Meetings.{Agrees, so_far_none, so_far_more, no_clash, first_is_least}
use Rattle.fl_gossip.proofs.meeting.first_clash.Goals as goal
use Rattle.fl_gossip.proofs.meeting.first_clash.Goals.{else-begins_with-via-then-begins_with+else-has_other, else-begins_with-via-else-begins_with}

pub loop-op-init : goal.loop-op-init
loop-op-init c = record {
  clean = so_far_none (Agrees (Listed c.args.others.now)) c.args.ops.now;
  left = left_all (Listed c.args.others.now) c.args.ops.now 0 c.args.others.now c.requires.others (λ x h. h) (λ x h. h);
}

pub loop-op-preserved : goal.loop-op-preserved
loop-op-preserved c =
    let U = Listed c.args.others.now in
    let ops = c.args.ops.now in
    let x = c.op-item.result in
    let i = c.loop-op.op-index in
    let rise = ops_rise ops i x (omega arith) c.op-item.is c.requires.ops in
    let f = c.from_name-rest.ensures in
    let left = left_from U ops i x (omega arith) c.op-item.is rise _ _ c.loop-op.invariant.left f in
    let same = same_left U ops i x (omega arith) c.op-item.is rise _ left in
    let agrees : Agrees U x = elim c.else-begins_with.branch [
      | else-begins_with-via-then-begins_with+else-has_other w ↦ λ other h e. w.has_other.ensures.alone w.if-has_other.false other (same other h e) e
      | else-begins_with-via-else-begins_with w ↦ λ other h e. absurd (none_named _ f.rise x.name f.above (c.begins_with.ensures.fails w.if-begins_with.false) other (same other h e) e)
    ] in
    record {
      clean = so_far_more (Agrees U) ops i x (omega arith) c.op-item.is c.loop-op.invariant.clean agrees;
      left = left_more U ops i _ left;
    }

pub returns-then-has_other : goal.returns-then-has_other
returns-then-has_other c =
    let U = Listed c.args.others.now in
    let ops = c.args.ops.now in
    let x = c.op-item.result in
    let i = c.loop-op.op-index in
    let left = left_from U ops i x (omega arith) c.op-item.is (ops_rise ops i x (omega arith) c.op-item.is c.requires.ops) _ _ c.loop-op.invariant.left c.from_name-rest.ensures in
    let found = c.has_other.ensures.other c.if-has_other.true in
    first_is_least U ops c.requires.ops i x (omega arith) c.op-item.is c.loop-op.invariant.clean found.0 (left.of found.0 found.1) found.2 found.3

pub returns : goal.returns
returns c = no_clash (Listed c.args.others.now) c.args.ops.now c.loop-op.op-index (omega arith) c.loop-op.invariant.clean
