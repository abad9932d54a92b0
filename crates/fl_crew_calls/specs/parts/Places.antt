-- What the place of a crew and a newcomer have against one another.
use Rattle.std.specs.Prelude.{◌⊎◌, ℕ}
use Rattle.std.specs.declared.option.Option.{Option}
use Rattle.std.specs.declared.option.Option.TheVariants.{None, Some}
use Rattle.fl_labels.specs.SetBy.{SetBy, In}
use Rattle.fl_labels.specs.declared.name.Name.{Name}
use Rattle.fl_ops.specs.OpOrder.{op_cmp}
use Rattle.fl_gossip.specs.Meeting.{IsClashOf, IsStrayOf}
use Rattle.fl_workers.specs.Over.{CrewOver}

abbrev pub ClashesIn : {K : Type 0} → SetBy op_cmp → Option (CrewOver K) → Name → Type 0
ClashesIn saved None name = ⊥
ClashesIn saved (Some crew) name = IsClashOf (In saved) (In crew.node.node.saved) name

abbrev pub StraysIn : {K : Type 0} → ℕ → SetBy op_cmp → ℕ → Option (CrewOver K) → Name → Type 0
StraysIn number saved other None name = ⊥
StraysIn number saved other (Some crew) name =
    IsStrayOf (In saved) (In crew.node.node.saved) other name
    ⊎ IsStrayOf (In crew.node.node.saved) (In saved) number name

-- the same of a place with its number
abbrev pub ClashesThere : {K : Type 0} → SetBy op_cmp → ℕ × Option (CrewOver K) → Name → Type 0
ClashesThere saved e = ClashesIn saved e.1

abbrev pub StraysThere : {K : Type 0} → ℕ → SetBy op_cmp → ℕ × Option (CrewOver K) → Name → Type 0
StraysThere number saved e = StraysIn number saved e.0 e.1
