-- What the aliases of a script stand for.
use Rattle.std.specs.Prelude.{ℕ, ◌≤◌, List, [], ◌∷◌, ◌++◌, Option, is_some, length, nat_eq, if◌then◌else◌}
use Rattle.std.specs.Cmp.Lexicographic.{pointwise}
use Rattle.std.specs.List.{flat_map, IsDistinct}
use Rattle.std.specs.Map.{lookup, keys_of, set_value}
use Rattle.fl_aliases.specs.Alias.{alias_text}
use Rattle.fl_aliases.specs.TargetText.{target_text}
use Rattle.fl_aliases.specs.declared.target.Target.{Target}

-- an alias's letters, and what it stands for
abbrev pub Entry : Type 0
Entry = List ℕ × Target

-- the aliases that are set, in the order of their first setting
abbrev pub Table : Type 0
Table = List Entry

-- at most 1,024 are set, each of them once
pub record IsTable (table : Table) : Type 0 where
  pub short : length table ≤ 1024
  pub once : IsDistinct (pointwise nat_eq) (keys_of table)

-- what the alias stands for, where it is set
abbrev pub target_of : Table → List ℕ → Option Target
target_of table letters = lookup (pointwise nat_eq letters) table

-- the alias, which is set, stands for this now, in its place
abbrev pub retargeted : Table → List ℕ → Target → Table
retargeted table letters target = set_value (pointwise nat_eq letters) table target

-- the alias stands for this now: in its place where it was set, else as the last one
abbrev pub with_alias : Table → List ℕ → Target → Table
with_alias table alias target =
    if is_some (target_of table alias) then retargeted table alias target else (table ++ (alias, target) ∷ [])

-- `$x p1.1.1`, and a line feed
abbrev pub entry_line : Entry → List ℕ
entry_line entry = alias_text entry.0 ++ 32 ∷ (target_text entry.1 ++ 10 ∷ [])

-- a line for each alias that is set
abbrev pub table_text : Table → List ℕ
table_text table = flat_map entry_line table
