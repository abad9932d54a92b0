-- How an operation is spelled in bytes, in either format.
use Rattle.std.specs.Prelude.{ℕ, ◌+◌, List, [], ◌∷◌, ◌++◌}
use Rattle.std.specs.Int.{w32, to_be_bytes}
use Rattle.fl_labels.specs.declared.name.Name.{Name}
use Rattle.fl_labels.specs.declared.cap.Cap.{Cap}
use Rattle.fl_labels.specs.Cap.{cap_name, cap_rank}
use Rattle.fl_ops.specs.declared.format.Format.{Format}
use Rattle.fl_ops.specs.declared.op.Policy.{Policy}
use Rattle.fl_ops.specs.declared.op.Policy.TheVariants.{Export, Read, Integrity}
use Rattle.fl_ops.specs.declared.op.Body.{Body}
use Rattle.fl_ops.specs.declared.op.Body.TheVariants.{MakeTag, MakeGroup, Put, MakeLogin, Open}
use Rattle.fl_ops.specs.declared.op.Op.{Op}
use Rattle.fl_ops.specs.Format.{format_byte, node_width, node_size}

-- the node as wide as the format has it, then the sequence number in four bytes
abbrev pub name_bytes : Format → Name → List ℕ
name_bytes f n = to_be_bytes (node_width f) n.node ++ to_be_bytes w32 n.seq

-- how many these are
abbrev pub name_size : Format → ℕ
name_size f = node_size f + 4

-- the kind in one byte, then the name
abbrev pub cap_bytes : Format → Cap → List ℕ
cap_bytes f c = cap_rank c ∷ name_bytes f (cap_name c)

-- how many these are
abbrev pub cap_size : Format → ℕ
cap_size f = 1 + name_size f

abbrev pub policy_byte : Policy → ℕ
policy_byte Export = 1
policy_byte Read = 2
policy_byte Integrity = 3

abbrev pub kind_byte : Body → ℕ
kind_byte (MakeTag p) = 1
kind_byte MakeGroup = 2
kind_byte (Put g c) = 3
kind_byte (MakeLogin c d) = 4
kind_byte (Open g) = 5

-- what follows the name
abbrev pub body_bytes : Format → Body → List ℕ
body_bytes f (MakeTag p) = policy_byte p ∷ []
body_bytes f MakeGroup = []
body_bytes f (Put g c) = name_bytes f g ++ cap_bytes f c
body_bytes f (MakeLogin c d) = cap_bytes f c ++ d.bytes
body_bytes f (Open g) = name_bytes f g

-- the format, the kind, the name, and what the kind asks for
abbrev pub op_bytes : Format → Op → List ℕ
op_bytes f o = format_byte f ∷ kind_byte o.body ∷ (name_bytes f o.name ++ body_bytes f o.body)

-- where what follows the name begins
abbrev pub body_place : Format → ℕ
body_place f = 2 + name_size f
