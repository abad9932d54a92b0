-- What follows from operations: what is reached, and what everybody is given.
use Rattle.std.specs.Prelude.{◌↔◌, List}
use Rattle.fl_labels.specs.SetBy.{SetBy, In}
use Rattle.fl_labels.specs.declared.cap.Cap.{Cap}
use Rattle.fl_ops.specs.declared.op.Op.{Op}
use Rattle.fl_ops.specs.OpOrder.{op_cmp}
use Rattle.fl_ops.specs.Registry.{Registry}
use Rattle.fl_closure.specs.declared.closure.Closure.{Closure}
use Rattle.fl_closure.specs.declared.rows.Owner.TheVariants.{Everybody}
use Rattle.fl_closure.specs.declared.closure.News.{News}
use Rattle.fl_closure.specs.parts.Closed.{IsGiven, AreClosed, AreMirrored, With}
use Rattle.fl_closure.specs.parts.Noted.{Gains, Loses, GainsBoth, LosesBoth}
use Rattle.fl_closure.specs.parts.Globals.{Has}

-- all that follows from the registry, and nothing else
pub record IsClosure (U : Registry) (closure : Closure) : Type 0 where
  pub closed : AreClosed U closure.rows.reached
  pub mirrored : AreMirrored closure.rows
  pub globals : (c : Cap) → Has closure.globals c ↔ IsGiven U Everybody c

-- what followed from a set follows from it and the operations
abbrev pub FollowsWith : Closure → List Op → Closure → Type 0
FollowsWith old ops new = (s : SetBy op_cmp) → IsClosure (In s) old → IsClosure (With s ops) new

pub record GainsAll (old : Closure) (news : News) (new : Closure) : Type 0 where
  pub rows : GainsBoth old.rows news.rows new.rows
  pub globals : Gains old.globals.given news.given.items new.globals.given

pub record LosesAll (old : Closure) (news : News) (new : Closure) : Type 0 where
  pub rows : LosesBoth old.rows news.rows new.rows
  pub globals : Loses old.globals.given news.given.items new.globals.given
