use Rattle.std.specs.VecDeque.Iter.{deque_iter_rest}
use Rattle.fl_explanations.specs.Lines.{waits_line}
use Rattle.fl_explanations.proofs.Passed.{IsPassed}
use Rattle.fl_explanations.proofs.shown.write_inbox.Given as goal

-- the lines so far passed
abbrev pub invariant-loop-letter : goal.invariant-loop-letter
invariant-loop-letter g l =
    IsPassed waits_line l.fn.inbox (deque_iter_rest l.letter-iterator)
    (g.W.Writer.contents l.initial.output) (g.W.Writer.contents l.output) l.initial.sink l.sink
