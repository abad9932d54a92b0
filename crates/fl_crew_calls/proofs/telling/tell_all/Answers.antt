use Rattle.std.proofs.Common.{◌++◌, ap, arith, length}
use Rattle.std.proofs.lemmas.List.{nil_from_length}
use Rattle.fl_crew_calls.specs.Told.{all_sent, replies_behind}
use Rattle.fl_crew_calls.proofs.Replying.{none_left, none_unreplied, replies_one, sends_one}
use Rattle.fl_crew_calls.proofs.telling.tell_all.Goals as goal

pub loop-entry-init : goal.loop-entry-init
loop-entry-init c =
    let gives = c.into_iter-entry-iterator.ensures.into_iter_gives.0 in
    record {
      sent_room = omega (arith, c.requires.sent, ap length gives);
      replies_room = omega (arith, c.requires.replies, ap length gives);
      sent = ap (λ es. c.args.sent.now.items ++ all_sent es) gives;
      replies = ap (λ es. c.args.replies.now.items ++ replies_behind c.args.sent.now.items es) gives;
    }

pub reply_to-reply-requires : goal.reply_to-reply-requires
reply_to-reply-requires c =
    omega (arith, c.loop-entry.invariant.sent_room, ap length c.in-Some.ensures.steps.0)

pub push_reserved-requires : goal.push_reserved-requires
push_reserved-requires c =
    omega (arith, c.loop-entry.invariant.replies_room, ap length c.in-Some.ensures.steps.0)

pub loop-entry-preserved : goal.loop-entry-preserved
loop-entry-preserved c =
    let steps = c.in-Some.ensures.steps.0 in
    let pushed = c.push_reserved.ensures in
    let told = c.reply_to-reply.ensures in
    record {
      sent_room = omega (arith, told.one, told.room, c.loop-entry.invariant.sent_room, ap length steps);
      replies_room = omega (
        arith,
        pushed.len,
        pushed.capacity,
        c.loop-entry.invariant.replies_room,
        ap length steps,
      );
      sent = sends_one c.loop-entry.sent.items c.in-Some.entry steps told.sent c.loop-entry.invariant.sent;
      replies = replies_one c.loop-entry.sent.items c.in-Some.entry steps told.sent
          c.loop-entry.replies.items c.reply_to-reply.result pushed.items told.reply c.loop-entry.invariant.replies;
    }

pub returns-clause-sent : goal.returns-clause-sent
returns-clause-sent c =
    none_left (nil_from_length c.loop-entry.entry-iterator.rest.items
    (omega (arith, c.loop-entry.entry-iterator.rest.ok.0, c.in-None.ensures.steps.0)))
    c.loop-entry.invariant.sent

pub returns-clause-replies : goal.returns-clause-replies
returns-clause-replies c =
    none_unreplied c.loop-entry.sent.items (nil_from_length c.loop-entry.entry-iterator.rest.items
    (omega (arith, c.loop-entry.entry-iterator.rest.ok.0, c.in-None.ensures.steps.0)))
    c.loop-entry.invariant.replies
