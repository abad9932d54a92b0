-- When a change of a label and an emission are safe, for who has the effective set E.
use Rattle.fl_labels.specs.declared.cap.Cap.TheVariants.{Plus, Minus, Use, Grow}
use Rattle.fl_labels.specs.Caps.{Caps, Dual}
use Rattle.fl_labels.specs.Name.{name_cmp}
use Rattle.fl_labels.specs.SetBy.{SetBy, IsMissing, In}
use Rattle.fl_labels.specs.Found.{Within}

-- what a change of a label takes: +t for each tag that it gains, -t for each that it loses
abbrev pub Takes : SetBy name_cmp → SetBy name_cmp → Caps
Takes old new (Plus tag) = IsMissing new old tag
Takes old new (Minus tag) = IsMissing old new tag
Takes old new (Use group) = ⊥
Takes old new (Grow group) = ⊥

-- what it takes is in effect
abbrev pub SafeChange : Caps → SetBy name_cmp → SetBy name_cmp → Type 0
SafeChange E old new = Within (Takes old new) E

-- each tag of what goes to the outside is such a tag
abbrev pub SafeEmission : Caps → SetBy name_cmp → Type 0
SafeEmission E secrecy = Within (In secrecy) (Dual E)
