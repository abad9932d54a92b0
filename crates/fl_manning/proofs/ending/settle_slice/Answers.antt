use Rattle.std.proofs.Common.{◌∙◌, ap, inl, inr}
use Rattle.fl_replica.specs.Boards.{Pressed}
use Rattle.fl_manning.proofs.Ends.{each_kept, ends_as, none_lost}
use Rattle.fl_manning.proofs.Ends.{same_list}
use Rattle.fl_manning.proofs.ending.settle_slice.Goals as goal

pub returns-then-not-settle_all-clause-settled : goal.returns-then-not-settle_all-clause-settled
returns-then-not-settle_all-clause-settled g c =
    each_kept c.args.first c.press.result.now.list c.deref.result.now c.failed-failed.result
    c.args.workers.now
    c.settle_all.new.workers c.settle_all.ensures.settled

pub returns-then-is_stopped-clause-settled : goal.returns-then-is_stopped-clause-settled
returns-then-is_stopped-clause-settled g c =
    each_kept c.args.first c.press.result.now.list c.deref.result.now c.failed-failed.result
    c.args.workers.now
    c.settle_all.new.workers c.settle_all.ensures.settled

pub returns-clause-settled : goal.returns-clause-settled
returns-clause-settled g c =
    each_kept c.args.first c.press.result.now.list c.deref.result.now c.failed-failed.result
    c.args.workers.now
    c.settle_all.new.workers c.settle_all.ensures.settled

pub returns-then-not-settle_all-clause-batch : goal.returns-then-not-settle_all-clause-batch
returns-then-not-settle_all-clause-batch g c =
    let closed = c.end_batch-deeds.ensures in
    ends_as c.args.first c.args.registrar.now.press.list c.press.result.now.list
    c.args.registrar.now.deeds c.deref.result.now c.args.registrar.now.failed c.failed-failed.result
    c.args.workers.now c.settle_all.new.workers c.settle_all.result _
    (ap (λ (p : Pressed). p.list) c.press.ensures
    ∙ same_list _ _ closed.left)
    (c.deref.ensures.value ∙ closed.deeds) c.failed-failed.ensures
    (inl c.if-not-settle_all.true) c.settle_all.ensures.batch

pub returns-then-is_stopped-clause-batch : goal.returns-then-is_stopped-clause-batch
returns-then-is_stopped-clause-batch g c =
    let closed = c.end_batch-deeds.ensures in
    ends_as c.args.first c.args.registrar.now.press.list c.press.result.now.list
    c.args.registrar.now.deeds c.deref.result.now c.args.registrar.now.failed c.failed-failed.result
    c.args.workers.now c.settle_all.new.workers c.settle_all.result _
    (ap (λ (p : Pressed). p.list) c.press.ensures
    ∙ same_list _ _ closed.left)
    (c.deref.ensures.value ∙ closed.deeds) c.failed-failed.ensures
    (inr c.if-not-settle_all.false) c.settle_all.ensures.batch

pub returns-clause-whole : goal.returns-clause-whole
returns-clause-whole g c = λ t.
    none_lost c.args.first c.press.result.now.list c.deref.result.now c.failed-failed.result
    c.args.workers.now
    c.settle_all.new.workers (c.settle_all.ensures.fine.0 c.if-not-settle_all.false)

pub returns-clause-batch : goal.returns-clause-batch
returns-clause-batch g c =
    let closed = c.end_batch-deeds.ensures in
    ends_as c.args.first c.args.registrar.now.press.list c.press.result.now.list
    c.args.registrar.now.deeds c.deref.result.now c.args.registrar.now.failed c.failed-failed.result
    c.args.workers.now c.settle_all.new.workers c.settle_all.result _
    (ap (λ (p : Pressed). p.list) c.press.ensures
    ∙ same_list _ _ closed.left)
    (c.deref.ensures.value ∙ closed.deeds) c.failed-failed.ensures
    (inr c.if-not-settle_all.false) c.settle_all.ensures.batch
