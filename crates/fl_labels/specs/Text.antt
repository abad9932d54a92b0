-- How names, capabilities, process identifiers, endpoints and sets are written.
use Rattle.std.specs.Prelude.{ℕ, List, [], ◌∷◌, ◌++◌, map}
use Rattle.std.specs.Fmt.{decimal}
use Rattle.std.specs.List.{join_with_byte}
use Rattle.fl_labels.specs.declared.name.Name.{Name}
use Rattle.fl_labels.specs.declared.cap.Cap.{Cap}
use Rattle.fl_labels.specs.declared.cap.Cap.TheVariants.{Plus, Minus, Use, Grow}
use Rattle.fl_labels.specs.declared.pid.Pid.{Pid}
use Rattle.fl_labels.specs.declared.endpoint.Endpoint.{Endpoint}
use Rattle.fl_labels.specs.Name.{name_cmp}
use Rattle.fl_labels.specs.Cap.{cap_name, cap_cmp}
use Rattle.fl_labels.specs.SetBy.{SetBy, members}

-- `1.4`
abbrev pub name_text : Name → List ℕ
name_text n = decimal n.node ++ 46 ∷ decimal n.seq

-- `+`, `-`, `*`, `^`
abbrev pub cap_sign : Cap → ℕ
cap_sign (Plus n) = 43
cap_sign (Minus n) = 45
cap_sign (Use n) = 42
cap_sign (Grow n) = 94

-- `+1.4`
abbrev pub cap_text : Cap → List ℕ
cap_text c = cap_sign c ∷ name_text (cap_name c)

-- `p1.1.1`
abbrev pub pid_text : Pid → List ℕ
pid_text p = 112 ∷ (decimal p.node ++ 46 ∷ (decimal p.boot ++ 46 ∷ decimal p.serial))

-- `e1`
abbrev pub endpoint_text : Endpoint → List ℕ
endpoint_text e = 101 ∷ decimal e.number

-- `{1.1,1.4}`, of items in any order, each with its text
abbrev pub braces : {K : Type 0} → (K → List ℕ) → List K → List ℕ
braces text items = 123 ∷ (join_with_byte 44 (map text items) ++ 125 ∷ [])

-- the tags, rising
abbrev pub label_text : SetBy name_cmp → List ℕ
label_text s = braces name_text (members s)

-- the capabilities, rising
abbrev pub caps_text : SetBy cap_cmp → List ℕ
caps_text s = braces cap_text (members s)
