-- The logins of a registry.
use Rattle.std.specs.Prelude.{◌≡◌, false, Option, MatchOption}
use Rattle.std.specs.Ordering.{is_gt}
use Rattle.fl_labels.specs.declared.name.Name.{Name}
use Rattle.fl_labels.specs.declared.cap.Cap.{Cap}
use Rattle.fl_ops.specs.declared.digest.Digest.{Digest}
use Rattle.fl_ops.specs.OpOrder.{op_cmp}
use Rattle.fl_ops.specs.Registry.{Registry, IsLogin, login_op}

-- of the logins of this name that the registry has, the least in the order of operations
pub record IsFirstLogin (U : Registry) (login : Name) (c : Cap) (digest : Digest) : Type 0 where
  pub member : IsLogin U login c digest
  pub least : (d : Cap) (other : Digest) → IsLogin U login d other
      → is_gt (op_cmp (login_op login c digest) (login_op login d other)) ≡ false

-- the registry has no login of this name
abbrev pub HasNoLogin : Registry → Name → Type 0
HasNoLogin U login = (c : Cap) (digest : Digest) → ¬ IsLogin U login c digest

-- the first login of this name, as its capability and its digest, or none where there is none
abbrev pub FindsLogin : Registry → Name → Option (Cap × Digest) → Type 0
FindsLogin U login r = MatchOption r (HasNoLogin U login) (λ l. IsFirstLogin U login l.0 l.1)
