-- Tables that say the same but for some aliases, as those before and behind a batch do.
use Rattle.std.proofs.Common.{◌≡◌, ◌∙◌, ◌≤◌, ◌++◌, ◌∷◌, [], refl, sym, ap, ℕ, Bool, true, false}
use Rattle.std.proofs.Common.{List, Option, None, Some, Contains, cond, is_some, length, nat_eq}
use Rattle.std.proofs.Common.{arith, length-append}
use Rattle.std.specs.Cmp.Lexicographic.{pointwise}
use Rattle.std.proofs.lemmas.List.Elements.{Contains-append_left, Contains-append_right}
use Rattle.std.proofs.lemmas.Map.{length-set_value}
use Rattle.fl_aliases.specs.Table.{Table, retargeted, target_of, with_alias}
use Rattle.fl_aliases.specs.declared.target.Target.{Target}
use Rattle.fl_system.specs.declared.reply.Reply.{Reply}
use Rattle.fl_calls.specs.Answer.{replied}
use Rattle.fl_turns.specs.Answer.{said}
use Rattle.fl_turns.specs.Naming.{made_by, renamed}
use Rattle.fl_turn_laws.proofs.AliasLaws.{with_others}
use Rattle.fl_crew_turns.specs.Naming.{named_all}

-- but for these aliases the tables say the same, and none was lost
pub record Extends (set : List (Option (List ℕ))) (old new : Table) : Type 0 where
  pub same : (letters : List ℕ) → ¬ Contains set (Some letters)
      → target_of new letters ≡ target_of old letters
  pub more : length old ≤ length new

pub extends_same : (set : List (Option (List ℕ))) (table : Table) → Extends set table table
extends_same set table = record { same = λ letters other. refl; more = omega arith }

pub extends_none : (table : Table) → Extends [] table table
extends_none table = extends_same [] table

pub extends_then : {set later : List (Option (List ℕ))} {old mid new : Table}
    → Extends set old mid → Extends later mid new → Extends (set ++ later) old new
extends_then {set} {later} f g = record {
  same = λ letters other.
      g.same letters (λ c. other (Contains-append_right set later (Some letters) c))
      ∙ f.same letters (λ c. other (Contains-append_left set later (Some letters) c));
  more = omega (arith, f.more, g.more);
}

-- so they do but for more aliases, too
pub extends_more : {set : List (Option (List ℕ))} (later : List (Option (List ℕ)))
    {old new : Table} → Extends set old new → Extends (set ++ later) old new
extends_more {set} later f = record {
  same = λ letters other.
      f.same letters (λ c. other (Contains-append_left set later (Some letters) c));
  more = f.more;
}

pub extends_before : (set : List (Option (List ℕ))) {later : List (Option (List ℕ))}
    {old new : Table} → Extends later old new → Extends (set ++ later) old new
extends_before set {later} f = record {
  same = λ letters other.
      f.same letters (λ c. other (Contains-append_right set later (Some letters) c));
  more = f.more;
}

-- ---- what lines set

one_listed : (alias letters : List ℕ) → letters ≡ alias
    → Contains (Some alias ∷ []) (Some letters)
one_listed alias letters e = (0, omega arith, ap Some (sym e))

none_lost : (table : Table) (alias : List ℕ) (target : Target)
    → length table ≤ length (with_alias table alias target)
none_lost table alias target = by (is_some (target_of table alias))
  where
    by : (found : Bool) → length table
        ≤ length (cond found (retargeted table alias target) (table ++ (alias, target) ∷ []))
    by true = omega (arith, length-set_value (pointwise nat_eq alias) table target)
    by false = omega (arith, length-append table ((alias, target) ∷ []))

pub renamed_extends : (table : Table) (alias : Option (List ℕ)) (made : Option Target)
    → Extends (alias ∷ []) table (renamed table alias made)
renamed_extends table None made = extends_same (None ∷ []) table
renamed_extends table (Some alias) None = extends_same (Some alias ∷ []) table
renamed_extends table (Some alias) (Some target) = record {
  same = λ letters other.
      with_others table alias target letters (λ e. other (one_listed alias letters e));
  more = none_lost table alias target;
}

pub named_all_extends : (table : Table) (aliases : List (Option (List ℕ))) (replies : List Reply)
    → Extends aliases table (named_all table aliases replies)
named_all_extends table [] replies = extends_none table
named_all_extends table (alias ∷ aliases) [] = extends_same (alias ∷ aliases) table
named_all_extends table (alias ∷ aliases) (reply ∷ replies) =
    let made = made_by (said (replied reply)) in
    extends_then {set = alias ∷ []} {later = aliases} (renamed_extends table alias made)
    (named_all_extends (renamed table alias made) aliases replies)

-- the last of them is set last
pub named_all_snoc : (table : Table) (aliases : List (Option (List ℕ))) (replies : List Reply)
    (alias : Option (List ℕ)) (reply : Reply) → length replies ≡ length aliases
    → named_all table (aliases ++ alias ∷ []) (replies ++ reply ∷ [])
    ≡ renamed (named_all table aliases replies) alias (made_by (said (replied reply)))
named_all_snoc table [] [] alias reply e = refl
named_all_snoc table [] (other ∷ replies) alias reply e = absurd (omega (arith, e))
named_all_snoc table (other ∷ aliases) [] alias reply e = absurd (omega (arith, e))
named_all_snoc table (first ∷ aliases) (other ∷ replies) alias reply e =
    named_all_snoc (renamed table first (made_by (said (replied other)))) aliases replies alias
    reply (omega (arith, e))
