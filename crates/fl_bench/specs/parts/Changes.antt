-- What a set of capabilities is after changes of it.
use Rattle.std.specs.Prelude.{◌≡◌, List, [], ◌∷◌, Option, IfSome}
use Rattle.fl_labels.specs.Cap.{cap_cmp}
use Rattle.fl_labels.specs.SetBy as set
use Rattle.fl_labels.specs.SetBy.{SetBy}
use Rattle.fl_bench.specs.declared.change.Change.{Change}
use Rattle.fl_bench.specs.declared.change.Change.TheVariants.{Gained, Dropped}

abbrev pub changed : SetBy cap_cmp → Change → SetBy cap_cmp
changed s (Gained cap) = set.insert s cap
changed s (Dropped cap) = set.remove s cap

-- in turn
abbrev pub after : SetBy cap_cmp → List Change → SetBy cap_cmp
after s [] = s
after s (c ∷ cs) = after (changed s c) cs

-- where there is a new past it is the old one with this change of the set
abbrev pub Follows : Option (SetBy cap_cmp) → Option (SetBy cap_cmp)
    → (SetBy cap_cmp → SetBy cap_cmp) → Type 0
Follows old new change =
    (s : SetBy cap_cmp) → IfSome old (λ past. past ≡ s) → IfSome new (λ past. past ≡ change s)
