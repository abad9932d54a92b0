use Rattle.std.proofs.Common.{◌≡◌, ◌+◌, ◌≤◌, [], true}
use Rattle.fl_sink.specs.Sink.{Passes}
use Rattle.fl_stream.specs.Intake.{HearsMore, may_ask}
use Rattle.fl_stream.proofs.intake.Intake.next.Given as goal

abbrev pub invariant-hearing : goal.invariant-hearing
invariant-hearing g l = record {
  more : HearsMore (g.C.Conversation.remaining l.initial.input) (g.C.Conversation.remaining l.input) (g.C.Conversation.heard l.initial.input) (g.C.Conversation.heard l.input) (g.C.Conversation.counted l.initial.input) (g.C.Conversation.counted l.input) l.initial.self l.self;
  ended : l.self.has_ended ≡ l.initial.self.has_ended;
  still : l.self.has_ended ≡ true → l.input ≡ l.initial.input;
  passed : Passes (g.W.Writer.contents l.initial.output) (g.W.Writer.contents l.output) l.initial.sink [] l.sink;
  asked : g.C.Conversation.hearings l.input + may_ask l.self ≤ g.C.Conversation.hearings l.initial.input + may_ask l.initial.self;
}

abbrev pub decreases-hearing : goal.decreases-hearing
decreases-hearing g l = l.self.room
