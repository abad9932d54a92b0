use Rattle.std.proofs.Common.{◌+◌, ◌≤◌, length}
use Rattle.fl_stream.specs.Intake.{may_ask, waiting}
use Rattle.fl_stream.specs.Driving.{Driven}
use Rattle.fl_stream.proofs.run.hear_all.Given as goal

abbrev pub invariant-lines : goal.invariant-lines
invariant-lines g l = record {
  driven : Driven g.M.Responder.turns l.initial.responder l.responder l.fn.most (g.C.Conversation.remaining l.initial.input) (g.C.Conversation.remaining l.input) (g.C.Conversation.heard l.initial.input) (g.C.Conversation.heard l.input) (g.C.Conversation.counted l.initial.input) (g.C.Conversation.counted l.input) (g.W.Writer.contents l.initial.output) (g.W.Writer.contents l.output) l.intake l.tally;
  live : ¬ (g.M.Responder.over l.responder);
  asked : g.C.Conversation.hearings l.input + may_ask l.intake ≤ l.fn.most + 1;
  few : l.tally.number + (length (waiting l.intake) + l.intake.room) ≤ l.fn.most + 1;
}

abbrev pub decreases-lines : goal.decreases-lines
decreases-lines g l = length (waiting l.intake) + l.intake.room
