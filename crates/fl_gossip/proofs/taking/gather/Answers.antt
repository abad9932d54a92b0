use Rattle.std.proofs.Common.{Some, arith, refl, sym, ◌∙◌}
use Rattle.std.proofs.lemmas.Result.{err_from_is_err_and}
use Rattle.fl_gossip.proofs.Take.{is_there, is_lacking, taken_none, taken_old, taken_new, has_new, stopped, all_taken}
use Rattle.fl_gossip.proofs.Fronts.{AtNode, left_none, left_ahead, left_member, member_left, left_more, may_all, offends_all}
use Rattle.fl_gossip.proofs.taking.gather.Goals as goal
use Rattle.fl_gossip.proofs.taking.gather.Goals.{then-branch+in_ok-push, else-branch}

pub loop-op-init : goal.loop-op-init
loop-op-init c = record {
  taken = taken_none _ _ _ _ c.new-new.ensures.items;
  left = left_none _ _ _ refl;
}

pub loop-op-preserved : goal.loop-op-preserved
loop-op-preserved c =
    let s = c.args.saved.now in
    let ops = c.args.ops.now in
    let x = c.op-item.result in
    let i = c.loop-op.op-index in
    let left = left_ahead s ops i x (omega arith) c.op-item.is c.requires _ _ _ c.loop-op.invariant.left c.ahead-rest.ensures in
    let of = left_member s ops i x (omega arith) c.op-item.is c.requires _ left in
    let same = member_left s ops i x (omega arith) c.op-item.is c.requires _ left in
    let e = may_all c.args.me s _ x of same _ c.in_ok-is_new.ensures in
    elim c.if-branch.branch [
      | then-branch+in_ok-push w ↦ record {
        taken = taken_new _ _ _ _ x (omega arith) c.op-item.is _ c.loop-op.invariant.taken _ e.0 (is_lacking _ (sym e.1 ∙ w.if-branch.true)) ((λ i. (w.new-is i).items) ∙ w.in_ok-push.ensures.items);
        left = left_more (AtNode s (Some x.name.node)) ops i _ left;
      }
      | else-branch w ↦ record {
        taken = taken_old _ _ _ _ x (omega arith) c.op-item.is _ c.loop-op.invariant.taken _ e.0 (is_there _ (sym e.1 ∙ w.if-branch.false)) (λ i. (w.new-is i).items);
        left = left_more (AtNode s (Some x.name.node)) ops i _ left;
      }
    ]

pub returns-in_err-is_new : goal.returns-in_err-is_new
returns-in_err-is_new c =
    let s = c.args.saved.now in
    let ops = c.args.ops.now in
    let x = c.op-item.result in
    let i = c.loop-op.op-index in
    let left = left_ahead s ops i x (omega arith) c.op-item.is c.requires _ _ _ c.loop-op.invariant.left c.ahead-rest.ensures in
    let of = left_member s ops i x (omega arith) c.op-item.is c.requires _ left in
    let same = member_left s ops i x (omega arith) c.op-item.is c.requires _ left in
    let p = err_from_is_err_and c.from_residual.result c.from_residual.ensures.1 in
    rw (p.1, p.2) (stopped _ _ _ _ x (omega arith) c.op-item.is _ c.loop-op.invariant.taken c.requires c.in_err-is_new.field-0.0
    (offends_all c.args.me s _ x of same c.in_err-is_new.field-0.0 c.in_err-is_new.ensures))

pub returns-in_err-push : goal.returns-in_err-push
returns-in_err-push c =
    let s = c.args.saved.now in
    let ops = c.args.ops.now in
    let x = c.op-item.result in
    let i = c.loop-op.op-index in
    let left = left_ahead s ops i x (omega arith) c.op-item.is c.requires _ _ _ c.loop-op.invariant.left c.ahead-rest.ensures in
    let of = left_member s ops i x (omega arith) c.op-item.is c.requires _ left in
    let same = member_left s ops i x (omega arith) c.op-item.is c.requires _ left in
    let e = may_all c.args.me s _ x of same _ c.in_ok-is_new.ensures in
    let p = err_from_is_err_and c.from_residual-in_err-push.result c.from_residual-in_err-push.ensures.1 in
    rw (p.1, p.2) (has_new _ _ _ _ x (omega arith) c.op-item.is _ c.loop-op.invariant.taken (is_lacking _ (sym e.1 ∙ c.if-branch.true)))

pub returns : goal.returns
returns c = all_taken _ _ _ c.loop-op.op-index _ _ (omega arith) refl c.loop-op.invariant.taken
