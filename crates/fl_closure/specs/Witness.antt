-- What a question came upon, and what that shows.
use Rattle.fl_labels.specs.Caps.{Caps}
use Rattle.fl_labels.specs.Found.{Within}
use Rattle.fl_labels.specs.declared.cap.Cap.{Cap}
use Rattle.fl_labels.specs.declared.cap.Cap.TheVariants.{Use}
use Rattle.fl_ops.specs.Registry.{Registry, Reach, From, InEffect}
use Rattle.fl_closure.specs.declared.rows.Owner.{Owner}
use Rattle.fl_closure.specs.declared.rows.Owner.TheVariants.{Everybody, Group}
use Rattle.fl_closure.specs.declared.witness.Witness.{Witness}
use Rattle.fl_closure.specs.parts.Block.{IsIn}

-- what is reached by who may use the group, or by everybody
abbrev pub ReachedBy : Registry → Owner → Caps
ReachedBy U (Group group) = Reach U (From (Use group))
ReachedBy U Everybody = InEffect U (λ c. ⊥)

-- its owner reaches each of its capabilities
pub record IsWitness (U : Registry) (w : Witness) : Type 0 where
  pub reached : Within (IsIn w.block) (ReachedBy U w.owner)

-- who owns these is such an owner
abbrev pub Owns : Caps → Owner → Type 0
Owns owned (Group group) = owned (Use group)
Owns owned Everybody = Unit {0}

-- the capability is one of its own, and who owns these reaches it
pub record Shows (w : Witness) (owned : Caps) (c : Cap) : Type 0 where
  pub among : IsIn w.block c
  pub owns : Owns owned w.owner
