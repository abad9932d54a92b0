-- What was added to rows, noted so that it can be taken out again.
use Rattle.std.specs.Prelude.{List}
use Rattle.std.specs.List.{Contains}
use Rattle.fl_labels.specs.Caps.{Caps}
use Rattle.fl_labels.specs.declared.cap.Cap.{Cap}
use Rattle.fl_closure.specs.declared.rows.Rows.{Rows}
use Rattle.fl_closure.specs.declared.rows.Note.{Note}
use Rattle.fl_closure.specs.declared.rows.Owner.{Owner}
use Rattle.fl_closure.specs.declared.closed.ClosedRows.{ClosedRows}
use Rattle.fl_closure.specs.declared.closed.Notes.{Notes}
use Rattle.fl_closure.specs.parts.Rows.{Holds, At, Adds, Takes}

-- one of these notes has the capability for the owner
abbrev pub Into : List Note → Owner → Caps
Into notes owner c = (note : Note) × Contains notes note × At note.owner note.block owner c

-- the rows have what they had and what is noted, which they had not
pub record Gains (old : Rows) (notes : List Note) (new : Rows) : Type 0 where
  pub adds : Adds old (Into notes) new
  pub fresh : (owner : Owner) (c : Cap) → Into notes owner c → ¬ Holds old owner c

-- the rows have what they had, but nothing that is noted
abbrev pub Loses : Rows → List Note → Rows → Type 0
Loses old notes new = Takes old (Into notes) new

-- what was gained before and is noted is noted with what was gained since
abbrev pub Continues : List Note → Rows → List Note → Rows → Type 0
Continues before old after new = (first : Rows) → Gains first before old → Gains first after new

-- ---- closed rows and their mirror

pub record GainsBoth (old : ClosedRows) (notes : Notes) (new : ClosedRows) : Type 0 where
  pub reached : Gains old.reached notes.reached.items new.reached
  pub users : Gains old.users notes.users.items new.users

pub record LosesBoth (old : ClosedRows) (notes : Notes) (new : ClosedRows) : Type 0 where
  pub reached : Loses old.reached notes.reached.items new.reached
  pub users : Loses old.users notes.users.items new.users

pub record NotesBoth
    (before : Notes) (old : ClosedRows) (after : Notes) (new : ClosedRows) : Type 0 where
  pub reached : Continues before.reached.items old.reached after.reached.items new.reached
  pub users : Continues before.users.items old.users after.users.items new.users
