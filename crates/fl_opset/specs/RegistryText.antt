-- How a registry is written.
use Rattle.std.specs.Prelude.{ℕ, List, [], ◌∷◌, ◌++◌, codes}
use Rattle.std.specs.List.{flat_map}
use Rattle.fl_labels.specs.declared.name.Name.{Name}
use Rattle.fl_labels.specs.declared.cap.Cap.{Cap}
use Rattle.fl_labels.specs.SetBy.{SetBy, members}
use Rattle.fl_labels.specs.Text.{name_text, cap_text}
use Rattle.hex.specs.Hex.{encode_lower}
use Rattle.fl_ops.specs.PolicyText.{policy_text}
use Rattle.fl_ops.specs.declared.digest.Digest.{Digest}
use Rattle.fl_ops.specs.declared.op.Body.{Body}
use Rattle.fl_ops.specs.declared.op.Body.TheVariants.{MakeTag, MakeGroup, Put, MakeLogin, Open}
use Rattle.fl_ops.specs.declared.op.Op.{Op}
use Rattle.fl_ops.specs.OpOrder.{op_cmp}

-- `tag export`, `group`, `put 1.4 *1.5`, `login *1.5` and the 64 digits of the digest, `open 1.5`
abbrev pub body_text : Body → List ℕ
body_text (MakeTag p) = codes "tag " ++ policy_text p
body_text MakeGroup = codes "group"
body_text (Put g c) = codes "put " ++ (name_text g ++ 32 ∷ cap_text c)
body_text (MakeLogin c d) = codes "login " ++ (cap_text c ++ 32 ∷ encode_lower d.bytes)
body_text (Open g) = codes "open " ++ name_text g

-- `1.1 tag export`, and a line feed
abbrev pub op_line : Op → List ℕ
op_line op = name_text op.name ++ 32 ∷ (body_text op.body ++ 10 ∷ [])

-- `1.6 put 1.4 *1.5`, and a line feed
abbrev pub put_line : Name → Name → Cap → List ℕ
put_line name group cap = op_line (record { name = name; body = Put group cap })

-- `1.7 login *1.5`, the 64 digits, and a line feed
abbrev pub login_line : Name → Cap → Digest → List ℕ
login_line name cap digest = op_line (record { name = name; body = MakeLogin cap digest })

-- `1.8 open 1.5`
abbrev pub open_line : Name → Name → List ℕ
open_line name group = op_line (record { name = name; body = Open group })

-- the lines of the members, rising
abbrev pub registry_text : SetBy op_cmp → List ℕ
registry_text s = flat_map op_line (members s)
