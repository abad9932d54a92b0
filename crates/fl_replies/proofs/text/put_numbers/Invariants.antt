use Rattle.std.proofs.Common.{take}
use Rattle.std.specs.List.{range_with_len}
use Rattle.fl_sink.specs.Sink.{Passes}
use Rattle.fl_replies.specs.ReplyText.{spaced_text}
use Rattle.fl_replies.proofs.text.put_numbers.Given as goal

-- the numbers so far passed
abbrev pub invariant-loop-offset : goal.invariant-loop-offset
invariant-loop-offset g l = Passes (g.W.Writer.contents l.initial.output) (g.W.Writer.contents l.output) l.initial.sink (spaced_text (take l.offset (range_with_len l.first l.count))) l.sink
