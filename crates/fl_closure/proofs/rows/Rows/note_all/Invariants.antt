use Rattle.std.specs.Prelude.{take}
use Rattle.fl_closure.specs.parts.Noted.{Continues}
use Rattle.fl_closure.specs.parts.Rows.{OfOne, Adds}
use Rattle.fl_closure.proofs.rows.Rows.note_all.Given as goal

abbrev pub invariant-loop-block : goal.invariant-loop-block
invariant-loop-block l = record {
  adds : Adds l.initial.self (OfOne l.owner (take l.block-index l.blocks)) l.self;
  notes : Continues l.initial.news.items l.initial.self l.news.items l.self;
}
