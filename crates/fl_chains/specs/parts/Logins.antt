-- The login that an operation makes.
use Rattle.std.specs.Prelude.{◌≡◌}
use Rattle.fl_ops.specs.declared.digest.Digest.{Digest}
use Rattle.fl_ops.specs.declared.op.Op.{Op}
use Rattle.fl_ops.specs.Registry.{login_op}
use Rattle.fl_chains.specs.declared.logins.Login.{Login}

-- with some secret, the operation makes this login
abbrev pub MakesLogin : Op → Login → Type 0
MakesLogin op login = (digest : Digest) × (login_op login.name login.cap digest ≡ op)
