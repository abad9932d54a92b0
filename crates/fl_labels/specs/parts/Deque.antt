-- Capabilities in one piece, with room before the first of them.
use Rattle.std.specs.Prelude.{◌≤◌, List, drop}
use Rattle.std.specs.Vec.{vec_len}
use Rattle.fl_labels.specs.declared.cap.Cap.{Cap}
use Rattle.fl_labels.specs.declared.deque.CapDeque.{CapDeque}

-- those behind the room
abbrev pub items : CapDeque → List Cap
items it = drop it.before it.all.items

-- the room is part of what there is
abbrev pub IsDeque : CapDeque → Type 0
IsDeque it = it.before ≤ vec_len it.all
