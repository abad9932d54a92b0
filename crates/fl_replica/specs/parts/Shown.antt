-- What is shown to desks, and what an operation adds to it.
use Rattle.std.specs.Prelude.{◌≡◌, List, [], ◌∷◌, ◌++◌, Option, Some, None, map, fold}
use Rattle.logbook.specs.Pages.{Book}
use Rattle.fl_ops.specs.declared.op.Op.{Op}
use Rattle.fl_replica.specs.parts.History.{ops_of}
use Rattle.fl_replica.specs.declared.published.Published.{Published}
use Rattle.fl_replica.specs.declared.published.Entry.{Entry}
use Rattle.fl_replica.specs.declared.published.Shown.{Shown}

abbrev pub shown_by : Published → Shown
shown_by p = record { list = p.log.items; known = p.known }

abbrev pub with_entry : Shown → Entry → Shown
with_entry s e = record { list = s.list ++ e.op ∷ []; known = e.known }

-- the list is all that the history has, as far as it is known
abbrev pub IsWhole : Shown → Type 0
IsWhole s = ops_of s.known.log ≡ s.list

-- the operations of these entries
abbrev pub entry_ops : List Entry → List Op
entry_ops es = map (λ e. e.op) es

-- the board of what a thread saw
abbrev pub board_of : Option Shown → Option Book
board_of None = None
board_of (Some s) = Some s.known.book

-- these entries lead from what is shown to all that the history has
abbrev pub Awaits : Shown → List Entry → Shown → Type 0
Awaits shown entries last = (fold with_entry shown entries ≡ last) × IsWhole shown × IsWhole last
    × (shown.known.book ≡ last.known.book)
