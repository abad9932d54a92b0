-- What a format has bytes for: the first for nodes below 65536 alone, and for no opened groups; the second for all.
use Rattle.std.specs.Prelude.{◌<◌, ◌≤◌}
use Rattle.fl_labels.specs.declared.name.Name.{Name}
use Rattle.fl_labels.specs.declared.cap.Cap.{Cap}
use Rattle.fl_labels.specs.Cap.{cap_name}
use Rattle.fl_ops.specs.declared.format.Format.{Format}
use Rattle.fl_ops.specs.declared.op.Body.{Body}
use Rattle.fl_ops.specs.declared.op.Body.TheVariants.{MakeTag, MakeGroup, Put, MakeLogin, Open}
use Rattle.fl_ops.specs.declared.op.Op.{Op}
use Rattle.fl_ops.specs.Format.{node_limit, last_kind}
use Rattle.fl_ops.specs.Bytes.{kind_byte}

abbrev pub HasName : Format → Name → Type 0
HasName f n = n.node < node_limit f

abbrev pub HasCap : Format → Cap → Type 0
HasCap f c = HasName f (cap_name c)

-- each name in what follows the operation's own
abbrev pub HasNames : Format → Body → Type 0
HasNames f (MakeTag p) = Unit {0}
HasNames f MakeGroup = Unit {0}
HasNames f (Put g c) = HasName f g × HasCap f c
HasNames f (MakeLogin c d) = HasCap f c
HasNames f (Open g) = HasName f g

pub record HasBody (f : Format) (body : Body) : Type 0 where
  pub kind : kind_byte body ≤ last_kind f
  pub names : HasNames f body

pub record HasOp (f : Format) (op : Op) : Type 0 where
  pub name : HasName f op.name
  pub body : HasBody f op.body
