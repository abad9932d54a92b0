use Rattle.std.specs.Prelude.{take}
use Rattle.fl_closure.specs.parts.Noted.{Loses}
use Rattle.fl_closure.proofs.rows.Rows.take_all.Given as goal

abbrev pub invariant-loop-note : goal.invariant-loop-note
invariant-loop-note l = Loses l.initial.self (take l.note-index l.notes) l.self
