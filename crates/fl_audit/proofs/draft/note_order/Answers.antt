-- What an order takes is noted.
use Rattle.std.proofs.Common.{◌∙◌, ◌++◌, ap}
use Rattle.std.proofs.lemmas.Result.{on_ok_weaker}
use Rattle.fl_audit.proofs.Notes.{on_err, taken_told, grant_listed, nothing_listed, unchanged}
use Rattle.fl_audit.proofs.draft.note_order.Goals as goal

pub returns-then-is_empty-clause-ok : goal.returns-then-is_empty-clause-ok
returns-then-is_empty-clause-ok c =
    unchanged _ _ (nothing_listed c.args.order c.args.asker
    (taken_told c.args.order _ (c.as_slice.ensures ∙ c.by-taken.ensures) _ c.is_empty.ensures _ c.if-is_empty.true))

pub returns-clause-ok : goal.returns-clause-ok
returns-clause-ok c =
    on_ok_weaker c.note_grant.result
    (λ h. h ∙ ap (λ l. c.args.audit.now.items ++ l)
    (grant_listed c.args.order _ (c.as_slice-2.ensures ∙ c.by-taken.ensures) c.args.asker
    (taken_told c.args.order _ (c.as_slice.ensures ∙ c.by-taken.ensures) _ c.is_empty.ensures _ c.if-is_empty.false)))
    c.note_grant.ensures.ok

pub returns-clause-err : goal.returns-clause-err
returns-clause-err c =
    on_err c.note_grant.result
    (taken_told c.args.order _ (c.as_slice.ensures ∙ c.by-taken.ensures) _ c.is_empty.ensures _ c.if-is_empty.false)
