-- How a program ends.
use Rattle.std.specs.Prelude.{ℕ}
use Rattle.std.specs.declared.result.Result.{Result}
use Rattle.std.specs.declared.result.Result.TheVariants.{Ok, Err}
use Rattle.fl_stream.specs.declared.fault.RunFault.{RunFault}

-- the status of a program whose run ended so
abbrev pub status_at_end : Result ℕ RunFault → ℕ
status_at_end (Ok status) = status
status_at_end (Err fault) = 3
