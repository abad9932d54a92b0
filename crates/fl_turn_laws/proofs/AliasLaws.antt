-- What lines do to the aliases.
use Rattle.std.proofs.Common.{◌≡◌, ◌≢◌, ◌∙◌, inl, inr, refl, sym, ap, subst, ℕ, Bool, true, false, cond, Option, None, Some, is_some, List, [], ◌∷◌, ◌++◌}
use Rattle.std.specs.Map.{keys_of}
use Rattle.std.proofs.lemmas.List.{map-append}
use Rattle.fl_aliases.specs.Table.{Table, target_of, retargeted, with_alias}
use Rattle.fl_aliases.specs.declared.target.Target.{Target}
use Rattle.fl_aliases.specs.laws.Placing.{placed_found, placed_others, set_found, set_others, set_places}
use Rattle.fl_calls.specs.Entering.{Openings}
use Rattle.fl_script.specs.Reading.{IsReading}
use Rattle.fl_script.specs.declared.line.Line.{Line}
use Rattle.fl_script.specs.declared.reading.Reading.{Reading}
use Rattle.fl_script.specs.declared.reading.Reading.TheVariants as reading
use Rattle.fl_script.specs.laws.OneReading.{one_reading}
use Rattle.fl_turns.specs.Session.{Session}
use Rattle.fl_turns.specs.Answer.{Answer, starved_line}
use Rattle.fl_turns.specs.Naming.{made_by, renamed, SetsAlias}
use Rattle.fl_turns.specs.Turn.{AnswersReading, AnswersNamed, Turn}

-- ---- an alias that is set

module _ (table : Table) (alias : List ℕ) (target : Target) where
  found_by : (b : Bool) → is_some (target_of table alias) ≡ b → target_of (cond b (retargeted table alias target) (table ++ (alias, target) ∷ [])) alias ≡ Some target
  found_by true is = set_found table alias target is
  found_by false is = placed_found table alias target (none_of (target_of table alias) is)
    where
      none_of : {X : Type 0} (o : Option X) → is_some o ≡ false → o ≡ None
      none_of None e = refl
      none_of (Some x) e = absurd (cc)

  pub with_found : target_of (with_alias table alias target) alias ≡ Some target
  with_found = found_by (is_some (target_of table alias)) refl

  others_by : (other : List ℕ) → other ≢ alias → (b : Bool) → is_some (target_of table alias) ≡ b → target_of (cond b (retargeted table alias target) (table ++ (alias, target) ∷ [])) other ≡ target_of table other
  others_by other is_other true is = set_others table alias other target is is_other
  others_by other is_other false is = placed_others table alias other target is_other

  pub with_others : (other : List ℕ) → other ≢ alias → target_of (with_alias table alias target) other ≡ target_of table other
  with_others other is_other = others_by other is_other (is_some (target_of table alias)) refl

  places_by : (b : Bool) → keys_of (cond b (retargeted table alias target) (table ++ (alias, target) ∷ [])) ≡ cond b (keys_of table) (keys_of table ++ alias ∷ [])
  places_by true = set_places table alias target
  places_by false = map-append _ table ((alias, target) ∷ [])

  pub with_places : keys_of (with_alias table alias target) ≡ cond (is_some (target_of table alias)) (keys_of table) (keys_of table ++ alias ∷ [])
  with_places = places_by (is_some (target_of table alias))

-- ---- what a line leaves

pub renamed_none : (table : Table) (alias : Option (List ℕ)) (made : Option Target) → made ≡ None → renamed table alias made ≡ table
renamed_none table None made e = refl
renamed_none table (Some alias) None e = refl
renamed_none table (Some alias) (Some target) e = absurd (cc)

reading_made_none : (openings : Openings) (old : Session) (r : Reading) (a : Answer) (m : Session) → AnswersReading openings old r a m → made_by a ≡ None → m.aliases ≡ old.aliases
reading_made_none openings old reading.Quiet a m h e = ap (λ (s : Session). s.aliases) h.1
reading_made_none openings old reading.Bad a m h e = ap (λ (s : Session). s.aliases) h.1
reading_made_none openings old (reading.Means said alias) a m h e = h.named ∙ renamed_none old.aliases alias (made_by a) e

-- a line that made nothing leaves all aliases
pub turn_made_none : (openings : Openings) (old : Session) (bytes : List ℕ) (a : Answer) (m : Session) → Turn openings old bytes a m → made_by a ≡ None → m.aliases ≡ old.aliases
turn_made_none openings old bytes a m (inl h) e = reading_made_none openings old h.reading a m h.answered e
turn_made_none openings old bytes a m (inr h) e = ap (λ (s : Session). s.aliases) h.unchanged

-- the aliases are what the line's alias, and what it made, leave
pub turn_named : (openings : Openings) (old : Session) (bytes : List ℕ) (said : Line) (alias : Option (List ℕ)) (a : Answer) (m : Session) → IsReading old.aliases bytes (reading.Means said alias) → Turn openings old bytes a m → m.aliases ≡ renamed old.aliases alias (made_by a)
turn_named openings old bytes said alias a m reads (inl h) =
    let e = one_reading old.aliases bytes h.reading (reading.Means said alias) h.says reads in
    (by_reading e h.answered).named
  where
    by_reading : {r : Reading} → r ≡ reading.Means said alias → AnswersReading openings old r a m → AnswersNamed openings old said alias a m
    by_reading e h = subst (λ r. AnswersReading openings old r a m) e h
turn_named openings old bytes said alias a m reads (inr h) = turn_starved alias
  where
    turn_starved : (alias : Option (List ℕ)) → m.aliases ≡ renamed old.aliases alias (made_by a)
    turn_starved alias = ap (λ (s : Session). s.aliases) h.unchanged ∙ sym (renamed_none old.aliases alias (made_by a) (ap made_by h.answered))

-- a line that means the same is answered so too, where memory was not wanted
pub turn_alike : (openings : Openings) (old : Session) (bytes other : List ℕ) (said : Line) (alias : Option (List ℕ)) (a : Answer) (m : Session) → IsReading old.aliases bytes (reading.Means said alias) → IsReading old.aliases other (reading.Means said alias) → a ≢ starved_line → Turn openings old bytes a m → Turn openings old other a m
turn_alike openings old bytes other said alias a m reads alike fed (inl h) =
    let e = one_reading old.aliases bytes h.reading (reading.Means said alias) h.says reads in
    inl (record { reading = reading.Means said alias; says = alike; answered = subst (λ r. AnswersReading openings old r a m) e h.answered })
turn_alike openings old bytes other said alias a m reads alike fed (inr h) = absurd (fed h.answered)

sets_alias : (old : Table) (alias : List ℕ) (target : Target) (made : Option Target) (new : Table) → new ≡ renamed old (Some alias) made → made ≡ Some target → SetsAlias old alias target new
sets_alias old alias target None new e f = absurd (cc)
sets_alias old alias target (Some made) new e f =
    let is : with_alias old alias target ≡ new = sym (e ∙ ap (renamed old (Some alias)) f) in
    subst (SetsAlias old alias target) is (record { set = with_found old alias target; others = with_others old alias target; order = with_places old alias target })

-- a line that made something sets its alias to that
pub turn_sets : (openings : Openings) (old : Session) (bytes : List ℕ) (said : Line) (alias : List ℕ) (a : Answer) (target : Target) (m : Session) → IsReading old.aliases bytes (reading.Means said (Some alias)) → Turn openings old bytes a m → made_by a ≡ Some target → SetsAlias old.aliases alias target m.aliases
turn_sets openings old bytes said alias a target m reads turn made = sets_alias old.aliases alias target (made_by a) m.aliases (turn_named openings old bytes said (Some alias) a m reads turn) made
