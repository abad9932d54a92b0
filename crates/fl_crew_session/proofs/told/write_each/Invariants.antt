use Rattle.std.proofs.Common.{◌≡◌, take}
use Rattle.fl_sink.specs.Sink.{Passes}
use Rattle.fl_crew_turns.specs.Batch.{replies_text, worst_reply}
use Rattle.fl_crew_session.proofs.told.write_each.Given as goal

-- the replies so far passed, and this was the greatest status of them
abbrev pub invariant-loop-reply : goal.invariant-loop-reply
invariant-loop-reply g l = record {
  passed : Passes (g.W.Writer.contents l.initial.output) (g.W.Writer.contents l.output) l.initial.sink
      (replies_text (take l.reply-index l.replies)) l.sink;
  worst : l.worst ≡ worst_reply (take l.reply-index l.replies);
}
