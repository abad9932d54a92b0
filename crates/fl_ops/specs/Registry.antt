-- Registries, and what they give to those who own capabilities. A registry is a set of operations, said as a predicate:
-- the members of a finite set, the items of a list and a union of both are then all registries.
use Rattle.std.specs.Prelude.{◌≡◌, ◌⊎◌, List, Bool}
use Rattle.std.specs.List.{Contains}
use Rattle.fl_labels.specs.Caps.{Among, Caps}
use Rattle.fl_labels.specs.declared.name.Name.{Name}
use Rattle.fl_labels.specs.declared.cap.Cap.{Cap}
use Rattle.fl_labels.specs.declared.cap.Cap.TheVariants.{Plus, Minus, Use, Grow}
use Rattle.fl_ops.specs.declared.digest.Digest.{Digest}
use Rattle.fl_ops.specs.declared.op.Op.{Op}
use Rattle.fl_ops.specs.declared.op.Body.{Body}
use Rattle.fl_ops.specs.declared.op.Body.TheVariants.{MakeTag, MakeGroup, Put, MakeLogin, Open}
use Rattle.fl_ops.specs.declared.op.Policy.{Policy}
use Rattle.fl_ops.specs.declared.op.Policy.TheVariants.{Export, Integrity}

-- a registry, which tells what operations it has
abbrev pub Registry : Type 1
Registry = Op → Type 0

-- the operation that makes a tag
abbrev pub tag_op : Name → Policy → Op
tag_op tag policy = record { name = tag; body = MakeTag policy }

-- the operation that makes a login
abbrev pub login_op : Name → Cap → Digest → Op
login_op login c digest = record { name = login; body = MakeLogin c digest }

-- an operation that opens a group
abbrev pub open_op : Name → Name → Op
open_op name group = record { name = name; body = Open group }

-- the operation puts c into the group
abbrev pub Puts : Body → Name → Cap → Type 0
Puts (MakeTag policy) group c = ⊥
Puts MakeGroup group c = ⊥
Puts (Put into what) group c = (into ≡ group) × (what ≡ c)
Puts (MakeLogin cap digest) group c = ⊥
Puts (Open opened) group c = ⊥

-- A chain leads from the first capability to the last: each but the last is the use of a group
-- into which the registry puts the next one.
pub data Chain (U : Registry) : Cap → Cap → Type 0 where
  here : {c : Cap} → Chain U c c
  into : {op : Op} {group : Name} {b c : Cap} → U op → Puts op.body group b → Chain U b c → Chain U (Use group) c

-- a chain leads to c from some root
abbrev pub Reach : Registry → Caps → Caps
Reach U roots c = (a : Cap) × roots a × Chain U a c

-- the root alone
abbrev pub From : Cap → Caps
From root c = c ≡ root

-- with the use of a group, all that the registry puts into the group
pub record IsClosed (U : Registry) (P : Caps) : Type 0 where
  pub step : (op : Op) (group : Name) (c : Cap) → U op → Puts op.body group c → P (Use group) → P c

-- some operation opens the group
abbrev pub IsOpened : Registry → Name → Type 0
IsOpened U group = (name : Name) × U (open_op name group)

-- everybody may add an export tag, remove an integrity tag, and use an opened group
abbrev pub IsGlobal : Registry → Caps
IsGlobal U (Plus tag) = U (tag_op tag Export)
IsGlobal U (Minus tag) = U (tag_op tag Integrity)
IsGlobal U (Use group) = IsOpened U group
IsGlobal U (Grow group) = ⊥

-- what the owner of these capabilities has: these, and everybody's
abbrev pub WithGlobal : Registry → Caps → Caps
WithGlobal U owned c = owned c ⊎ IsGlobal U c

-- what it has in effect: all that this leads to
abbrev pub InEffect : Registry → Caps → Caps
InEffect U owned = Reach U (WithGlobal U owned)

-- no operation opens a group
pub record OpensNone (U : Registry) : Type 0 where
  pub none : (group : Name) → ¬ IsOpened U group

-- the registry has a login of this name, to this capability, whose secret has this digest
abbrev pub IsLogin : Registry → Name → Cap → Digest → Type 0
IsLogin U login cap digest = U (login_op login cap digest)

-- the registry of a list's items
abbrev pub Listed : List Op → Registry
Listed ops = λ op. Contains ops op

-- what the operations that a test tells lead to from the capabilities that another tells
abbrev pub Reached : (Op → Bool) → (Cap → Bool) → Caps
Reached ops owned = Reach (Among ops) (Among owned)

-- what is in effect for their owner then
abbrev pub Effective : (Op → Bool) → (Cap → Bool) → Caps
Effective ops owned = InEffect (Among ops) (Among owned)
