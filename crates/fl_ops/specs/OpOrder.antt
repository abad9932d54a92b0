-- The order of operations.
use Rattle.std.specs.Prelude.{ℕ, List, [], ◌∷◌}
use Rattle.std.specs.declared.cmp.Ordering.{Ordering}
use Rattle.std.specs.Ordering.{nat_cmp, ordering_then}
use Rattle.std.specs.Cmp.Lexicographic.{slice_cmp}
use Rattle.fl_labels.specs.Name.{name_cmp}
use Rattle.fl_labels.specs.Cap.{cap_name, cap_rank}
use Rattle.fl_ops.specs.declared.op.Body.{Body}
use Rattle.fl_ops.specs.declared.op.Body.TheVariants.{MakeTag, MakeGroup, Put, MakeLogin, Open}
use Rattle.fl_ops.specs.declared.op.Op.{Op}
use Rattle.fl_ops.specs.Bytes.{policy_byte}

-- the numbers of a body, in the order of its bytes
abbrev pub body_key : Body → List ℕ
body_key (MakeTag p) = 1 ∷ policy_byte p ∷ []
body_key MakeGroup = 2 ∷ []
body_key (Put g c) = 3 ∷ g.node ∷ g.seq ∷ cap_rank c ∷ (cap_name c).node ∷ (cap_name c).seq ∷ []
body_key (MakeLogin c d) = 4 ∷ cap_rank c ∷ (cap_name c).node ∷ (cap_name c).seq ∷ d.bytes
body_key (Open g) = 5 ∷ g.node ∷ g.seq ∷ []

-- by name, and then as their bytes are
abbrev pub op_cmp : Op → Op → Ordering
op_cmp a b = ordering_then (name_cmp a.name b.name) (slice_cmp nat_cmp (body_key a.body) (body_key b.body))
