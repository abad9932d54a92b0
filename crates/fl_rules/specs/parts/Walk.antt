-- A walk along two lists of tags that rise, from the one label to the other.
use Rattle.std.specs.Prelude.{◌≡◌, ◌⊎◌, ◌↔◌, ◌+◌, ◌<◌, List, length, Bool, true, false}
use Rattle.std.specs.declared.option.Option.{Option}
use Rattle.std.specs.declared.option.Option.TheVariants.{None, Some}
use Rattle.std.specs.List.{list_any}
use Rattle.std.specs.List.Sorted.{IsStrictlySortedBy}
use Rattle.std.specs.Ordering.{eq_by_cmp, is_gt}
use Rattle.fl_labels.specs.declared.name.Name.{Name}
use Rattle.fl_labels.specs.declared.cap.Cap.{Cap}
use Rattle.fl_labels.specs.declared.cap.Cap.TheVariants.{Plus, Minus, Use, Grow}
use Rattle.fl_labels.specs.Name.{name_cmp}
use Rattle.fl_labels.specs.Cap.{cap_cmp}
use Rattle.fl_labels.specs.Caps.{Caps}

-- whether the tag is one of these
abbrev pub among : Name → List Name → Bool
among tag tags = list_any (eq_by_cmp name_cmp tag) tags

-- the tag is one of these, and none of the others
pub record OnlyIn (these others : List Name) (tag : Name) : Type 0 where
  pub here : among tag these ≡ true
  pub not_there : among tag others ≡ false

-- what it takes to turn the first list into the second
abbrev pub Turns : List Name → List Name → Caps
Turns old new (Plus tag) = OnlyIn new old tag
Turns old new (Minus tag) = OnlyIn old new tag
Turns old new (Use group) = ⊥
Turns old new (Grow group) = ⊥

-- P is what Q is and the first besides, which is the least of P
pub record Heads (first : Cap) (P Q : Caps) : Type 0 where
  pub member : P first
  pub least : (cap : Cap) → P cap → is_gt (cap_cmp first cap) ≡ false
  pub parts : (cap : Cap) → P cap ↔ (cap ≡ first) ⊎ Q cap

-- P is what Q is, and what comes first, if anything does
abbrev pub Leads : Option Cap → Caps → Caps → Type 0
Leads None P Q = (cap : Cap) → P cap ↔ Q cap
Leads (Some first) P Q = Heads first P Q

-- what comes first in two lists, and what is left of both
pub record Splits (old new : List Name) (cap : Option Cap) (old_rest new_rest : List Name) : Type 0 where
  pub old_rises : IsStrictlySortedBy name_cmp old_rest
  pub new_rises : IsStrictlySortedBy name_cmp new_rest
  pub shorter : length old_rest + length new_rest < length old + length new
  pub leads : Leads cap (Turns old new) (Turns old_rest new_rest)
