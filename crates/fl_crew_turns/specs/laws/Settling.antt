-- Aliases that are set one after another.
use Rattle.std.proofs.Common.{◌≡◌, ◌⊎◌, inl, inr, ℕ, ◌+◌, ◌≤◌, cond, Option, None, Some, is_some, List, [], ◌∷◌, ◌++◌, length, map, nat_eq, ap, refl, ◌∙◌, arith, length-append}
use Rattle.std.specs.Cmp.Lexicographic.{pointwise}
use Rattle.std.proofs.lemmas.List.Sums.{sum_by-append, sum_by_from}
use Rattle.std.proofs.lemmas.Map.{length-set_value}
use Rattle.fl_aliases.specs.Table.{Table, target_of, retargeted, with_alias}
use Rattle.fl_aliases.specs.declared.target.Target.{Target}
use Rattle.fl_system.specs.declared.answer.Fault.{Fault}
use Rattle.fl_system.specs.declared.reply.Reply.{Reply}
use Rattle.fl_system.specs.declared.reply.Reply.TheVariants.{Refused}
use Rattle.fl_calls.specs.Answer.{replied}
use Rattle.fl_turns.specs.Answer.{said}
use Rattle.fl_turns.specs.Naming.{made_by, renamed}
use Rattle.fl_crew_turns.specs.Held.{count_set}
use Rattle.fl_crew_turns.specs.Naming.{named_all}

pub count_step : (alias : Option (List ℕ)) (aliases rest : List (Option (List ℕ))) → aliases ≡ alias ∷ rest → count_set aliases ≡ count_set (alias ∷ []) + count_set rest
count_step alias aliases rest e = ap count_set e ∙ sum_by_from (λ x. cond (is_some x) 1 0) (0 + cond (is_some alias) 1 0) rest

-- one more at the end counts for itself
pub count_push : (aliases : List (Option (List ℕ))) (alias : Option (List ℕ)) → count_set (aliases ++ alias ∷ []) ≡ count_set aliases + count_set (alias ∷ [])
count_push aliases alias = sum_by-append (λ x. cond (is_some x) 1 0) aliases (alias ∷ [])

pub named_step : (table : Table) (alias : Option (List ℕ)) (reply : Reply) {aliases rest : List (Option (List ℕ))} {replies later : List Reply} → aliases ≡ alias ∷ rest → replies ≡ reply ∷ later
    → named_all table aliases replies ≡ named_all (renamed table alias (made_by (said (replied reply)))) rest later
named_step table alias reply e f = λ i. named_all table (e i) (f i)

-- with no alias or no reply left, no more is set
pub named_end : (table : Table) (aliases : List (Option (List ℕ))) (replies : List Reply) → (length aliases ≡ 0) ⊎ (length replies ≡ 0) → named_all table aliases replies ≡ table
named_end table [] replies ended = refl
named_end table (alias ∷ aliases) [] ended = refl
named_end table (alias ∷ aliases) (reply ∷ replies) (inl e) = absurd (omega (arith, e))
named_end table (alias ∷ aliases) (reply ∷ replies) (inr e) = absurd (omega (arith, e))

length-with : (table : Table) (alias : List ℕ) (target : Target) → length (with_alias table alias target) ≤ length table + 1
length-with table alias target = by (target_of table alias)
  where
    by : (found : Option Target) → length (cond (is_some found) (retargeted table alias target) (table ++ (alias, target) ∷ [])) ≤ length table + 1
    by (Some was) = omega (arith, length-set_value (pointwise nat_eq alias) table target)
    by None = omega (arith, length-append table ((alias, target) ∷ []))

-- where each line is refused, none is set
pub named_refused : {X : Type 0} (fault : Fault) (table : Table) (aliases : List (Option (List ℕ))) (lines : List X) → named_all table aliases (map (λ _. Refused fault) lines) ≡ table
named_refused fault table [] lines = refl
named_refused fault table (alias ∷ aliases) [] = refl
named_refused fault table (None ∷ aliases) (line ∷ lines) = named_refused fault table aliases lines
named_refused fault table (Some alias ∷ aliases) (line ∷ lines) = named_refused fault table aliases lines

-- at most one alias more is set, where there is an alias
pub length-renamed : (table : Table) (alias : Option (List ℕ)) (made : Option Target) → length (renamed table alias made) ≤ length table + count_set (alias ∷ [])
length-renamed table None made = omega arith
length-renamed table (Some alias) None = omega arith
length-renamed table (Some alias) (Some target) = omega (arith, length-with table alias target)

-- at most so many are set as are to be
pub length-named_all : (table : Table) (aliases : List (Option (List ℕ))) (replies : List Reply) → length (named_all table aliases replies) ≤ length table + count_set aliases
length-named_all table [] replies = omega arith
length-named_all table (alias ∷ aliases) [] = omega arith
length-named_all table (alias ∷ aliases) (reply ∷ replies) =
    let made = made_by (said (replied reply)) in
    omega (arith, count_step alias (alias ∷ aliases) aliases refl, length-renamed table alias made, length-named_all (renamed table alias made) aliases replies)
