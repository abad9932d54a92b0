use Rattle.std.proofs.Common.{◌≡◌, ◌++◌, List, ℕ}
use Rattle.fl_sink.specs.Sink.{Passes}
use Rattle.fl_aliases.specs.Table.{table_text}
use Rattle.fl_aliases.proofs.table.Aliases.write_text.Given as goal

-- the lines that are left come behind those that passed
abbrev pub invariant-loop-alias : goal.invariant-loop-alias
invariant-loop-alias g l =
    (done : List ℕ) × Passes (g.W.Writer.contents l.initial.output) (g.W.Writer.contents l.output) l.initial.sink done l.sink
    × (table_text l.initial.alias-iterator ≡ done ++ table_text l.alias-iterator)
