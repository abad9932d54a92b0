use Rattle.std.proofs.Common.{Some, arith, refl}
use Rattle.fl_gossip.proofs.Take.{may_none, may_more, may_refused, may_all_starved}
use Rattle.fl_gossip.proofs.Fronts.{AtNode, left_none, left_ahead, left_member, member_left, left_more, may_all, offends_all}
use Rattle.fl_gossip.proofs.taking.refusal.Goals as goal

pub loop-op-init : goal.loop-op-init
loop-op-init c = record {
  may = may_none c.args.me c.args.saved.now c.args.ops.now;
  left = left_none _ _ _ refl;
}

pub loop-op-preserved : goal.loop-op-preserved
loop-op-preserved c =
    let s = c.args.saved.now in
    let ops = c.args.ops.now in
    let x = c.op-item.result in
    let i = c.loop-op.op-index in
    let left = left_ahead s ops i x (omega arith) c.op-item.is c.requires.rise _ _ _ c.loop-op.invariant.left c.ahead-rest.ensures in
    let of = left_member s ops i x (omega arith) c.op-item.is c.requires.rise _ left in
    let same = member_left s ops i x (omega arith) c.op-item.is c.requires.rise _ left in
    record {
      may = may_more c.args.me s ops i x (omega arith) c.op-item.is c.loop-op.invariant.may (may_all c.args.me s _ x of same _ c.in_default.ensures).0;
      left = left_more (AtNode s (Some x.name.node)) ops i _ left;
    }

pub returns-in-Err : goal.returns-in-Err
returns-in-Err c =
    let s = c.args.saved.now in
    let ops = c.args.ops.now in
    let x = c.op-item.result in
    let i = c.loop-op.op-index in
    let left = left_ahead s ops i x (omega arith) c.op-item.is c.requires.rise _ _ _ c.loop-op.invariant.left c.ahead-rest.ensures in
    let of = left_member s ops i x (omega arith) c.op-item.is c.requires.rise _ left in
    let same = member_left s ops i x (omega arith) c.op-item.is c.requires.rise _ left in
    may_refused c.args.me s ops i x (omega arith) c.op-item.is c.loop-op.invariant.may c.requires.rise c.in-Err.fault
    (offends_all c.args.me s _ x of same c.in-Err.fault c.in-Err.ensures)

pub returns : goal.returns
returns c = may_all_starved c.args.me c.args.saved.now c.args.ops.now c.loop-op.op-index (omega arith) c.loop-op.invariant.may c.requires.new
