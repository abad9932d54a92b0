use Rattle.std.proofs.Common.{◌∙◌, arith, sym}
use Rattle.fl_sink.specs.laws.Passing.{passes_then, puts_then, puts_stop}
use Rattle.fl_system.specs.declared.reply.Reply.TheVariants.{Refused}
use Rattle.fl_crew_session.proofs.Telling.{refusals_at, text_refusals, worst_refusals}
use Rattle.fl_crew_session.proofs.told.write_refusals.Goals as goal

pub loop-done-preserved : goal.loop-done-preserved
loop-done-preserved g c = record {
  passed = rw text_refusals (passes_then _ _ _ c.loop-done.invariant.passed c.in_ok-write_world_reply.ensures.puts.is);
  worst = c.reply_status-worst.ensures ∙ sym (worst_refusals (Refused c.args.fault) c.loop-done._done);
}

pub returns-in_err-write_world_reply-clause-puts :
    goal.returns-in_err-write_world_reply-clause-puts
returns-in_err-write_world_reply-clause-puts g c =
    rw (refusals_at _ c.loop-done._done c.args.count (omega arith))
    (puts_then c.loop-done.invariant.passed (puts_stop _ _ c.in_err-write_world_reply.ensures.puts.is c.from_residual.ensures.0))
