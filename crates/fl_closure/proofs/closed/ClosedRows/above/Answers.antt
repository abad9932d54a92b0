use Rattle.std.proofs.Common.{subst, ◌↔◌}
use Rattle.fl_labels.specs.declared.cap.Cap.{Cap}
use Rattle.fl_closure.specs.declared.rows.Owner.TheVariants.{Group}
use Rattle.fl_closure.specs.parts.Block.{AreIn}
use Rattle.fl_closure.specs.parts.Rows.{Holds}
use Rattle.fl_closure.proofs.Giving.{all_above, above_lacking, if_ok}
use Rattle.fl_closure.proofs.closed.ClosedRows.above.Goals as goal

pub returns-in_default : goal.returns-in_default
returns-in_default c = all_above c.args.self.now c.args.group c.requires _ c.in_ok-above.ensures c.args.cap

pub returns : goal.returns
returns c =
    if_ok c.lacking.result (λ lacking lacks. above_lacking c.args.self.now c.args.group c.requires _ c.in_ok-above.ensures c.args.cap c.in-Use.used lacking.items c.in-Use.is
    (subst (λ l. (d : Cap) → AreIn lacking.items d ↔ (AreIn l d × ¬ Holds c.args.self.now.users (Group c.in-Use.used) d)) c.deref.ensures.value lacks)) c.lacking.ensures
