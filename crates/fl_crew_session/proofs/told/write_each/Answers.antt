use Rattle.std.proofs.Common.{◌<◌, arith, length, rules}
use Rattle.fl_sink.specs.laws.Passing.{passes_then, puts_then, puts_stop}
use Rattle.fl_crew_session.proofs.Telling.{same_reply, text_at, text_more, worst_more}
use Rattle.fl_crew_session.proofs.told.write_each.Goals as goal

pub returns-in_err-write_world_reply-clause-puts :
    goal.returns-in_err-write_world_reply-clause-puts
returns-in_err-write_world_reply-clause-puts g c =
    let inside : c.loop-reply.reply-index < length c.args.replies.now = omega arith in
    rw (text_at c.args.replies.now c.loop-reply.reply-index c.reply-item.result inside, ← c.reply-item.is)
    (puts_then c.loop-reply.invariant.passed (puts_stop _ _ c.in_err-write_world_reply.ensures.puts.is c.from_residual.ensures.0))

pub loop-reply-preserved : goal.loop-reply-preserved
loop-reply-preserved g c =
    let inside : c.loop-reply.reply-index < length c.args.replies.now = omega arith in record {
      passed = rw (text_more c.args.replies.now c.loop-reply.reply-index c.reply-item.result inside, ← c.reply-item.is)
          (passes_then _ _ _ c.loop-reply.invariant.passed c.in_ok-write_world_reply.ensures.puts.is);
      worst = rw (worst_more c.args.replies.now c.loop-reply.reply-index c.reply-item.result inside, ← c.reply-item.is, ← same_reply c.reply-item.result, ← c.loop-reply.invariant.worst, ← c.reply_status.ensures) (search rules);
    }
