-- Sets of capabilities, said as predicates: both the members of a finite set and what is in effect for a process are such sets.
use Rattle.std.specs.Prelude.{◌≡◌, Bool, true}
use Rattle.fl_labels.specs.declared.name.Name.{Name}
use Rattle.fl_labels.specs.declared.cap.Cap.{Cap}
use Rattle.fl_labels.specs.declared.cap.Cap.TheVariants.{Plus, Minus}

abbrev pub Caps : Type 1
Caps = Cap → Type 0

-- those that a test tells, as the members of a finite set are told
abbrev pub Among : {K : Type 0} → (K → Bool) → K → Type 0
Among chosen x = chosen x ≡ true

-- the tags that may be both added and removed by who has E in effect
abbrev pub Dual : Caps → Name → Type 0
Dual E tag = E (Plus tag) × E (Minus tag)
