use Rattle.std.proofs.Common.{refl}
use Rattle.fl_ops.specs.Registry.{Listed}
use Rattle.fl_bench.specs.Jobs.{enter_check}
use Rattle.fl_monitor.specs.parts.Checked.{Checked}
use Rattle.fl_monitor.specs.parts.Could.{idle_with}
use Rattle.fl_monitor.proofs.CheckLemmas.{stops}
use Rattle.fl_monitor.proofs.CouldLemmas.{act_as, act_drops, act_mails, act_relabels}
use Rattle.fl_monitor.proofs.could.check_act.Goals as goal

pub returns-in-Order-clause-checked : goal.returns-in-Order-clause-checked
returns-in-Order-clause-checked g c = act_as (Listed (g.V.View.list c.args.view.now)) (idle_with c.args.labels.now c.args.owned.now c.args.mailbox.now) c.args.act.now _ c.in-Order.is (rw c.caps.ensures at c.check.ensures.checked)

pub returns-in-Relabel-clause-checked : goal.returns-in-Relabel-clause-checked
returns-in-Relabel-clause-checked g c =
    act_relabels (Listed (g.V.View.list c.args.view.now)) (idle_with c.args.labels.now c.args.owned.now c.args.mailbox.now) c.args.act.now _ _ c.in-Relabel.is
    (rw c.caps-in-Relabel.ensures at c.check_given.ensures.checked)

pub returns-in-Spawn-clause-checked : goal.returns-in-Spawn-clause-checked
returns-in-Spawn-clause-checked g c = act_as (Listed (g.V.View.list c.args.view.now)) (idle_with c.args.labels.now c.args.owned.now c.args.mailbox.now) c.args.act.now _ c.in-Spawn.is (rw (c.caps-in-Spawn.ensures, c.deref.ensures) at c.check-in-Spawn.ensures.checked)

pub returns-in-Drop-clause-checked : goal.returns-in-Drop-clause-checked
returns-in-Drop-clause-checked g c =
    act_drops (g.V.View.list c.args.view.now) c.args.labels.now c.args.owned.now c.args.mailbox.now c.args.act.now _ c.lend.ensures _ c.in-Drop.is c.check_drop.ensures.checked

pub returns-in_err-check_login-in-Enter-clause-checked : goal.returns-in_err-check_login-in-Enter-clause-checked
returns-in_err-check_login-in-Enter-clause-checked g c =
    act_as (Listed (g.V.View.list c.args.view.now)) (idle_with c.args.labels.now c.args.owned.now c.args.mailbox.now) c.args.act.now _ c.in-Enter.is
    (stops (enter_check (Listed (g.V.View.list c.args.view.now)) c.in-Enter.login c.in-Enter.secret) _ c.in_err-check_login-in-Enter.ensures.err c.from_residual.result c.from_residual.ensures)

pub returns-in_ok-check_login-in-Enter-clause-checked : goal.returns-in_ok-check_login-in-Enter-clause-checked
returns-in_ok-check_login-in-Enter-clause-checked g c = act_as (Listed (g.V.View.list c.args.view.now)) (idle_with c.args.labels.now c.args.owned.now c.args.mailbox.now) c.args.act.now _ c.in-Enter.is (Checked.passed (_, c.in_ok-check_login-in-Enter.ensures.ok))

pub returns-in-Emit-clause-checked : goal.returns-in-Emit-clause-checked
returns-in-Emit-clause-checked g c = act_as (Listed (g.V.View.list c.args.view.now)) (idle_with c.args.labels.now c.args.owned.now c.args.mailbox.now) c.args.act.now _ c.in-Emit.is (rw c.caps-in-Emit.ensures at c.check-in-Emit.ensures.checked)

pub returns-in-Mail-clause-checked : goal.returns-in-Mail-clause-checked
returns-in-Mail-clause-checked g c =
    act_mails (g.V.View.list c.args.view.now) c.args.labels.now c.args.owned.now c.args.mailbox.now c.args.act.now _ c.lend-in-Mail.ensures _ c.in-Mail.is _ c.caps-in-Mail.ensures c.check_mail.ensures.checked

pub returns-in-Ask-clause-checked : goal.returns-in-Ask-clause-checked
returns-in-Ask-clause-checked g c = act_as (Listed (g.V.View.list c.args.view.now)) (idle_with c.args.labels.now c.args.owned.now c.args.mailbox.now) c.args.act.now _ c.in-Ask.is (Checked.passed refl)

pub returns-in-Exit-clause-checked : goal.returns-in-Exit-clause-checked
returns-in-Exit-clause-checked g c = act_as (Listed (g.V.View.list c.args.view.now)) (idle_with c.args.labels.now c.args.owned.now c.args.mailbox.now) c.args.act.now _ c.in-Exit.is (Checked.passed refl)
