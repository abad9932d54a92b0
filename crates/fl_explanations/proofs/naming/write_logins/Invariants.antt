use Rattle.std.proofs.Common.{take}
use Rattle.std.specs.List.{flat_map}
use Rattle.fl_sink.specs.Sink.{Passes}
use Rattle.fl_explanations.specs.Lines.{login_line}
use Rattle.fl_explanations.proofs.naming.write_logins.Given as goal

-- the lines so far passed
abbrev pub invariant-loop-login : goal.invariant-loop-login
invariant-loop-login g l =
    Passes (g.W.Writer.contents l.initial.output) (g.W.Writer.contents l.output) l.initial.sink
    (flat_map login_line (take l.login-index l.logins)) l.sink
