use Rattle.std.proofs.Common.{◌∙◌, ap, refl}
use Rattle.fl_labels.specs.SetBy.{members}
use Rattle.fl_message.specs.declared.message.Message.{Message}
use Rattle.fl_jobs.specs.declared.job.Act.TheVariants.{Relabel, Mail}
use Rattle.fl_monitor.proofs.Gathering.{all_of, err_then, lack_of, ok_then}
use Rattle.fl_monitor.proofs.Lacking.{relabel_lacks, send_lacks, sends}
use Rattle.fl_monitor.proofs.wanting.note_act.Goals as goal

pub returns-in-Order-clause-err : goal.returns-in-Order-clause-err
returns-in-Order-clause-err g c = rw c.in-Order.is c.note_order.ensures.err

pub returns-in-Spawn-clause-ok : goal.returns-in-Spawn-clause-ok
returns-in-Spawn-clause-ok g c =
    rw c.in-Spawn.is
    (ok_then c.note_all.result c.note_all.ensures.ok (all_of _ c.in-Spawn.caps _ (c.as_slice.ensures ∙ ap members c.deref.ensures) _ _))

pub returns-in-Spawn-clause-err : goal.returns-in-Spawn-clause-err
returns-in-Spawn-clause-err g c =
    rw c.in-Spawn.is
    (err_then c.note_all.result c.note_all.ensures.err (lack_of _ c.in-Spawn.caps _ (c.as_slice.ensures ∙ ap members c.deref.ensures)))

pub returns-in-Emit-clause-err : goal.returns-in-Emit-clause-err
returns-in-Emit-clause-err g c = rw c.in-Emit.is c.note_both.ensures.err

pub returns-in-Ok-clause-err : goal.returns-in-Ok-clause-err
returns-in-Ok-clause-err g c =
    let is = c.in-Relabel.is ∙ ap (λ l. Relabel c.in-Relabel.side l) c.in-Ok.is in
    relabel_lacks _ c.args.guards c.args.process.now c.args.act.now _ _ _ _ c.note_change.result is c.label_of.ensures refl c.note_change.ensures.err

pub returns-in-Send-clause-ok : goal.returns-in-Send-clause-ok
returns-in-Send-clause-ok g c =
    let are = c.as_slice-in-Mail.ensures ∙ ap (λ (m : Message). members m.caps) c.deref-in-Mail.ensures in
    let is = c.in-Mail.is ∙ ap (λ m. Mail m) c.in-Send.is in
    sends _ c.args.guards c.args.process.now c.args.act.now _ _ _ _ _ _ c.note_all-in-Mail.result is
    (ok_then c.note_all-in-Mail.result c.note_all-in-Mail.ensures.ok (all_of _ c.in-Send.message.caps _ are _ _))

pub returns-in-Send-clause-err : goal.returns-in-Send-clause-err
returns-in-Send-clause-err g c =
    let are = c.as_slice-in-Mail.ensures ∙ ap (λ (m : Message). members m.caps) c.deref-in-Mail.ensures in
    let is = c.in-Mail.is ∙ ap (λ m. Mail m) c.in-Send.is in
    send_lacks _ c.args.guards c.args.process.now c.args.act.now _ _ _ _ c.note_all-in-Mail.result is
    (err_then c.note_all-in-Mail.result c.note_all-in-Mail.ensures.err (lack_of _ c.in-Send.message.caps _ are))
