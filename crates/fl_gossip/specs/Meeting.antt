-- What two registries have against each other, by the least name of it.
use Rattle.std.specs.Prelude.{◌≡◌, ◌≢◌, ℕ, List}
use Rattle.std.specs.List.{Contains}
use Rattle.std.specs.Ordering.{ord_min}
use Rattle.std.specs.declared.cmp.Ordering.TheVariants.{Less}
use Rattle.std.specs.declared.option.Option.{Option}
use Rattle.std.specs.declared.option.Option.TheVariants.{None, Some}
use Rattle.fl_labels.specs.Name.{name_cmp}
use Rattle.fl_labels.specs.declared.name.Name.{Name}
use Rattle.fl_ops.specs.declared.op.Op.{Op}

-- ---- least names

-- the least of the names of which P holds
pub record IsLeastOf (P : Name → Type 0) (name : Name) : Type 0 where
  pub holds : P name
  pub least : (other : Name) → P other → name_cmp other name ≢ Less

-- the least of the names of which P holds, or none where it holds of none
abbrev pub FindsLeast : (Name → Type 0) → Option Name → Type 0
FindsLeast P None = (name : Name) → ¬ P name
FindsLeast P (Some name) = IsLeastOf P name

-- the lesser of two names, or the one that is there
abbrev pub lesser_of : Option Name → Option Name → Option Name
lesser_of None b = b
lesser_of (Some m) None = Some m
lesser_of (Some m) (Some n) = Some (ord_min name_cmp m n)

-- P holds of the name for one of these
abbrev pub OfSome : {X : Type 0} → (X → Name → Type 0) → List X → Name → Type 0
OfSome {X} P xs name = (x : X) × Contains xs x × P x name

-- ---- two registries

-- an operation of the one registry and one of the other have this name, and differ
pub record IsClashOf (U V : Op → Type 0) (name : Name) : Type 0 where
  pub ours : Op
  pub theirs : Op
  pub in_ours : U ours
  pub in_theirs : V theirs
  pub our_name : ours.name ≡ name
  pub their_name : theirs.name ≡ name
  pub differ : ours ≢ theirs

-- an operation of this name, which has this number, is in the one registry and not in the other
pub record IsStrayOf (U V : Op → Type 0) (number : ℕ) (name : Name) : Type 0 where
  pub op : Op
  pub op_name : op.name ≡ name
  pub of : op.name.node ≡ number
  pub in_there : U op
  pub unknown : ¬ V op
