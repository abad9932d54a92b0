use Rattle.std.specs.Prelude.{◌⊎◌, ◌↔◌}
use Rattle.fl_labels.specs.declared.cap.Cap.{Cap}
use Rattle.fl_closure.specs.parts.Block.{AreIn}
use Rattle.fl_closure.proofs.Listing.{AreInEntries}
use Rattle.fl_closure.proofs.row.Row.push_to.Given as goal

abbrev pub invariant-loop-place : goal.invariant-loop-place
invariant-loop-place l =
    (c : Cap) → (AreIn l.blocks.items c ⊎ AreInEntries l.place-iterator c) ↔ (AreIn l.initial.blocks.items c ⊎ AreInEntries l.initial.place-iterator c)
