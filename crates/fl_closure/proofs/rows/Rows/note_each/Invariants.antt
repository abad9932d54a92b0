use Rattle.std.specs.Prelude.{take}
use Rattle.fl_closure.specs.parts.Noted.{Continues}
use Rattle.fl_closure.specs.parts.Rows.{OfEach, Adds}
use Rattle.fl_closure.proofs.rows.Rows.note_each.Given as goal

abbrev pub invariant-loop-name : goal.invariant-loop-name
invariant-loop-name l = record {
  adds : Adds l.initial.self (OfEach (take l.name-index l.names) l.blocks) l.self;
  notes : Continues l.initial.news.items l.initial.self l.news.items l.self;
}
