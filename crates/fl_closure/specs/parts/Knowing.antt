-- What an operation would not change.
use Rattle.std.specs.Prelude.{◌≡◌, List}
use Rattle.fl_labels.specs.SetBy as set
use Rattle.fl_labels.specs.SetBy.{SetBy, In}
use Rattle.fl_labels.specs.declared.name.Name.{Name}
use Rattle.fl_labels.specs.declared.cap.Cap.{Cap}
use Rattle.fl_ops.specs.declared.digest.Digest.{Digest}
use Rattle.fl_ops.specs.declared.op.Op.{Op}
use Rattle.fl_ops.specs.OpOrder.{op_cmp}
use Rattle.fl_ops.specs.Registry.{Registry, IsLogin, login_op}
use Rattle.fl_closure.specs.declared.closure.Closure.{Closure}
use Rattle.fl_closure.specs.declared.rows.Owner.{Owner}
use Rattle.fl_closure.specs.declared.rows.Owner.TheVariants.{Everybody, Group}
use Rattle.fl_closure.specs.parts.Closed.{Gives}
use Rattle.fl_closure.specs.parts.Closure.{IsClosure}
use Rattle.fl_closure.specs.parts.Globals.{Has}
use Rattle.fl_closure.specs.parts.Rows.{Holds}

-- the owner has it: everybody, as what is given
abbrev pub IsHeld : Closure → Owner → Cap → Type 0
IsHeld closure (Group group) c = Holds closure.rows.reached (Group group) c
IsHeld closure Everybody c = Has closure.globals c

-- all that the operation gives is there
pub record Follows (closure : Closure) (op : Op) : Type 0 where
  pub held : (owner : Owner) (c : Cap) → Gives op owner c → IsHeld closure owner c

-- the logins of a registry, and nothing else
pub record AreLogins (U : Registry) (logins : SetBy op_cmp) : Type 0 where
  pub only : (op : Op) → In logins op → U op
  pub all : (name : Name) (c : Cap) (digest : Digest) → IsLogin U name c digest → In logins (login_op name c digest)

-- all that follows from the operation follows already, and if it is a login it is one of these
pub record IsKnown (closure : Closure) (logins : SetBy op_cmp) (op : Op) : Type 0 where
  pub follows : Follows closure op
  pub login : (name : Name) (c : Cap) (digest : Digest) → login_op name c digest ≡ op → In logins op

-- what an index keeps of the operations that it absorbed
pub record IsIndex (ops : List Op) (closure : Closure) (logins : SetBy op_cmp) : Type 0 where
  pub is_closure : IsClosure (In (set.of_list {R = op_cmp} ops)) closure
  pub are_logins : AreLogins (In (set.of_list {R = op_cmp} ops)) logins
