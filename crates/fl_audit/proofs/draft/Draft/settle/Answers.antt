-- What is left of what was noted once it is answered.
use Rattle.std.proofs.Common.{◌∙◌, sym, subst}
use Rattle.fl_audit.specs.Drafts.{IsDrafted}
use Rattle.fl_audit.proofs.Notes.{leaves_no_yes, leaves_no_entry}
use Rattle.fl_audit.proofs.draft.Draft.settle.Goals as goal

pub returns-then-not-is_yes : goal.returns-then-not-is_yes
returns-then-not-is_yes c before noted long drafted =
    leaves_no_yes before c.args.audit.now.items noted c.args.answer.now c.args.from _ long c.truncate.ensures.items
    (sym c.is_yes.ensures ∙ c.if-not-is_yes.true)
    (subst (IsDrafted before c.args.audit.now.items noted) c.in-IfYes.is drafted)

pub returns-in-None : goal.returns-in-None
returns-in-None c before noted long drafted =
    leaves_no_entry before c.args.audit.now.items noted c.args.answer.now c.args.from _ long c.truncate-in-None.ensures.items
    (sym c.entered.ensures ∙ c.in-None.is)
    (subst (IsDrafted before c.args.audit.now.items noted) c.in-IfEntered.is drafted)
