use Rattle.std.proofs.Common.{◌≡◌, ◌++◌, ℕ, List, length}
use Rattle.hex.specs.Hex.{encode_lower}
use Rattle.fl_sink.specs.Sink.{Passes}
use Rattle.fl_answers.proofs.text.put_digits.Given as goal

-- the digits of the bytes before the rest were put
abbrev pub invariant-loop-few : goal.invariant-loop-few
invariant-loop-few g l = record {
  done : List ℕ;
  split : l.bytes ≡ done ++ l.rest;
  passes : Passes (g.W.Writer.contents l.fn.output) (g.W.Writer.contents l.output) l.fn.sink (encode_lower done) l.sink;
}

abbrev pub decreases-loop-few : goal.decreases-loop-few
decreases-loop-few g l = length l.rest
