use Rattle.std.proofs.Common.{◌+◌, ◌≤◌, length}
use Rattle.fl_stream.specs.Intake.{may_ask, waiting}
use Rattle.fl_stream.specs.Driving.{Driven}
use Rattle.fl_crew_turns.specs.Turn.{CrewTurns}
use Rattle.fl_crew_calls.specs.Calls.{crews_calls}
use Rattle.fl_crews.proofs.run.hear_all.Given as goal

abbrev pub invariant-lines : goal.invariant-lines
invariant-lines g l = record {
  driven : Driven (CrewTurns (crews_calls g.M.K.Keeper.custody g.M.MakesKeepers.making)) l.initial.session l.session 16777216 (g.C.Conversation.remaining l.initial.input) (g.C.Conversation.remaining l.input) (g.C.Conversation.heard l.initial.input) (g.C.Conversation.heard l.input) (g.C.Conversation.counted l.initial.input) (g.C.Conversation.counted l.input) (g.W.Writer.contents l.initial.output) (g.W.Writer.contents l.output) l.intake l.tally;
  asked : g.C.Conversation.hearings l.input + may_ask l.intake ≤ 16777217;
  few : l.tally.number + (length (waiting l.intake) + l.intake.room) ≤ 16777217;
}

abbrev pub decreases-lines : goal.decreases-lines
decreases-lines g l = length (waiting l.intake) + l.intake.room
