use Rattle.std.proofs.Common.{◌≡◌, replicate}
use Rattle.fl_sink.specs.Sink.{Passes}
use Rattle.fl_system.specs.declared.reply.Reply.TheVariants.{Refused}
use Rattle.fl_crew_turns.specs.Batch.{replies_text, worst_reply}
use Rattle.fl_crew_session.proofs.told.write_refusals.Given as goal

-- so many refusals passed, and this was the greatest status of them
abbrev pub invariant-loop-done : goal.invariant-loop-done
invariant-loop-done g l = record {
  passed : Passes (g.W.Writer.contents l.initial.output) (g.W.Writer.contents l.output) l.initial.sink
      (replies_text (replicate l._done (Refused l.fn.fault))) l.sink;
  worst : l.worst ≡ worst_reply (replicate l._done (Refused l.fn.fault));
}
