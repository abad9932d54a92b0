use Rattle.std.proofs.Common.{◌∙◌}
use Rattle.fl_machine_model.specs.Acts.{Cancel, Publish, Save}
use Rattle.fl_machine.proofs.Lines.{replies_act}
use Rattle.fl_machine.proofs.asking.respond_to.Goals as goal

pub returns-in-Job : goal.returns-in-Job
returns-in-Job g c = rw c.in-Job.is c.do_job.ensures

pub returns-in-Begin : goal.returns-in-Begin
returns-in-Begin g c = rw c.in-Begin.is c.begin_job.ensures

pub returns-in-Receive : goal.returns-in-Receive
returns-in-Receive g c =
    rw (c.in-Receive.is, ← (c.as_slice.ensures ∙ c.deref.ensures))
    (c.bring_packet.ensures c.args.guards)

pub returns-in-BeginReceive : goal.returns-in-BeginReceive
returns-in-BeginReceive g c =
    rw (
      c.in-BeginReceive.is,
      ← (c.as_slice-in-BeginReceive.ensures ∙ c.deref-in-BeginReceive.ensures),
    )
    (c.begin_to_bring.ensures c.args.guards)

pub returns-in-Tell : goal.returns-in-Tell
returns-in-Tell g c = rw c.in-Tell.is c.tell.ensures

pub returns-in-Save : goal.returns-in-Save
returns-in-Save g c =
    rw c.in-Save.is (replies_act g.K.Keeper.custody c.args.node.now c.args.keys.now c.save.new.node
    Save c.save.result c.save.ensures.goes c.save.ensures.same c.save.ensures.cause)

pub returns-in-Publish : goal.returns-in-Publish
returns-in-Publish g c =
    rw c.in-Publish.is (replies_act g.K.Keeper.custody c.args.node.now c.args.keys.now
    c.publish.new.node
    Publish c.publish.result c.publish.ensures.goes c.publish.ensures.same
    (λ failed. absurd (c.publish.ensures.cause failed)))

pub returns-in-Cancel : goal.returns-in-Cancel
returns-in-Cancel g c =
    rw c.in-Cancel.is (replies_act g.K.Keeper.custody c.args.node.now c.args.keys.now
    c.cancel.new.node
    Cancel c.cancel.result c.cancel.ensures.goes c.cancel.ensures.same
    (λ failed. absurd (c.cancel.ensures.cause failed)))

pub returns-in-Text : goal.returns-in-Text
returns-in-Text g c = rw c.in-Text.is (c.text.ensures c.args.keys.now)

pub returns-in-Check : goal.returns-in-Check
returns-in-Check g c =
    rw (c.in-Check.is, ← (c.as_slice-in-Check.ensures ∙ c.deref-in-Check.ensures))
    (c.check.ensures c.args.guards)

pub returns-in-Could : goal.returns-in-Could
returns-in-Could g c = rw c.in-Could.is (c.foretell.ensures c.args.keys.now)

pub returns-in-Missing : goal.returns-in-Missing
returns-in-Missing g c = rw c.in-Missing.is (c.find_wanting.ensures c.args.keys.now)

pub returns-in-Explain : goal.returns-in-Explain
returns-in-Explain g c = rw c.in-Explain.is (c.explain.ensures c.args.keys.now)
