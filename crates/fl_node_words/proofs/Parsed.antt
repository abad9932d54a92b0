-- What a parse of the program's words finds: what is required has a text, and each text passed its
-- parser.
use Rattle.std.proofs.Common.{◌≡◌, ◌⊎◌, ◌∙◌, ◌<◌, ℕ, zero, suc, not, Bool, true, false, List, [], ◌∷◌, length, map, Option, Some, None, IsSomeAnd, is_some, ap, refl, sym, subst, inl, inr, arith, true≢false, codes}
use Rattle.std.specs.Prelude.{option_map, option_and_then, slice_get, unwrap_or}
use Rattle.std.specs.List.{All, slice_index_or}
use Rattle.std.specs.Str.{bytes_eq}
use Rattle.std.specs.Borrow.{Bor}
use Rattle.std.proofs.lemmas.List.{get_or-map, length-map}
use Rattle.std.proofs.lemmas.List.Elements.{All-nil, All-get_or}
use Rattle.std.proofs.lemmas.Slice.Eq.{bytes_eq-Decides}
use Rattle.clap.specs.Facts.{EntryPasses, PassesArg, args_of, groups_of, least_values, parser_of, parser_of_value, unwrap_or_range}
use Rattle.clap.specs.Built.{IsAuto, IsParsedFrom, IsPlain, IsPlainArg, SameRules}
use Rattle.clap.specs.Matches.{first_value, found_of, matched_of, raw_values}
use Rattle.clap.specs.Simple.{App, app_of}
use Rattle.clap.specs.Values.{Accepts, IsUnsignedIn}
use Rattle.clap.specs.Walk.{Rule, Text, all_of, first_of, is_empty, is_free_arg, is_simple_arg, rows_of, rule_of}
use Rattle.clap.specs.declared.builder.action.ArgAction.TheVariants.{Set}
use Rattle.clap.specs.declared.builder.arg.Arg.{Arg}
use Rattle.clap.specs.declared.builder.command.Command.{Command}
use Rattle.clap.specs.declared.builder.command.Command.TheViews.{out-Command}
use Rattle.clap.specs.declared.builder.value_parser.ValueParser.{ValueParser}
use Rattle.clap.specs.declared.builder.value_parser.ValueParser.TheVariants.{NonEmptyString, Unsigned}
use Rattle.clap.specs.declared.parser.matches.ArgMatches.{ArgMatches}
use Rattle.clap.specs.declared.parser.matches.Found.{Found}
use Rattle.clap.specs.declared.parser.matches.MatchedArg.{MatchedArg}
use Rattle.clap.proofs.CallerLemmas.{entry_by_id, required_has_value, same_rules_by_id}
use Rattle.clap.proofs.SimpleLemmas.{HasPlainFields, is_false, is_nil, plain_fields}
use Rattle.clap.proofs.WalkLemmas.{both, first_value-rows, raw_values-rows}
use Rattle.fl_node_words.specs.Words.{IsPath, IsWhole, keys_of, program}

-- the rule in a place of the program
abbrev rule : ℕ → Rule → Rule
rule k r = slice_index_or program.top.rules k r

-- ---- the program's options

-- no two have one name, of those that take a value
distinct : (k j : ℕ) (r s : Rule) → k < 3 → j < 5 → bytes_eq (rule j s).id (rule k r).id ≡ true → j ≡ k
distinct zero zero r s low high same = refl
distinct zero (suc zero) r s low high same = absurd (true≢false (sym same))
distinct zero (suc (suc zero)) r s low high same = absurd (true≢false (sym same))
distinct zero (suc (suc (suc zero))) r s low high same = absurd (true≢false (sym same))
distinct zero (suc (suc (suc (suc zero)))) r s low high same = absurd (true≢false (sym same))
distinct zero (suc (suc (suc (suc (suc j))))) r s low high same = absurd (omega arith)
distinct (suc zero) zero r s low high same = absurd (true≢false (sym same))
distinct (suc zero) (suc zero) r s low high same = refl
distinct (suc zero) (suc (suc zero)) r s low high same = absurd (true≢false (sym same))
distinct (suc zero) (suc (suc (suc zero))) r s low high same = absurd (true≢false (sym same))
distinct (suc zero) (suc (suc (suc (suc zero)))) r s low high same = absurd (true≢false (sym same))
distinct (suc zero) (suc (suc (suc (suc (suc j))))) r s low high same = absurd (omega arith)
distinct (suc (suc zero)) zero r s low high same = absurd (true≢false (sym same))
distinct (suc (suc zero)) (suc zero) r s low high same = absurd (true≢false (sym same))
distinct (suc (suc zero)) (suc (suc zero)) r s low high same = refl
distinct (suc (suc zero)) (suc (suc (suc zero))) r s low high same = absurd (true≢false (sym same))
distinct (suc (suc zero)) (suc (suc (suc (suc zero)))) r s low high same = absurd (true≢false (sym same))
distinct (suc (suc zero)) (suc (suc (suc (suc (suc j))))) r s low high same = absurd (omega arith)
distinct (suc (suc (suc k))) j r s low high same = absurd (omega arith)

-- none of these has the name of what building adds
own : (k : ℕ) (r : Rule) → k < 3 → ((rule k r).id ≡ codes "help") ⊎ ((rule k r).id ≡ codes "version") → ⊥
own zero r low (inl is) = absurd (true≢false (sym (ap (λ t. bytes_eq t (codes "help")) is)))
own zero r low (inr is) = absurd (true≢false (sym (ap (λ t. bytes_eq t (codes "version")) is)))
own (suc zero) r low (inl is) = absurd (true≢false (sym (ap (λ t. bytes_eq t (codes "help")) is)))
own (suc zero) r low (inr is) = absurd (true≢false (sym (ap (λ t. bytes_eq t (codes "version")) is)))
own (suc (suc zero)) r low (inl is) = absurd (true≢false (sym (ap (λ t. bytes_eq t (codes "help")) is)))
own (suc (suc zero)) r low (inr is) = absurd (true≢false (sym (ap (λ t. bytes_eq t (codes "version")) is)))
own (suc (suc (suc k))) r low auto = absurd (omega arith)

-- and each has one
named : (k : ℕ) (r : Rule) → k < 3 → (rule k r).id ≡ [] → ⊥
named zero r low is = absurd (true≢false (sym (ap (λ t. bytes_eq t []) is)))
named (suc zero) r low is = absurd (true≢false (sym (ap (λ t. bytes_eq t []) is)))
named (suc (suc zero)) r low is = absurd (true≢false (sym (ap (λ t. bytes_eq t []) is)))
named (suc (suc (suc k))) r low is = absurd (omega arith)

-- each is simple
each-is_simple : (k : ℕ) (r : Rule) → k < 5 → (rule k r).is_simple ≡ true
each-is_simple zero r low = refl
each-is_simple (suc zero) r low = refl
each-is_simple (suc (suc zero)) r low = refl
each-is_simple (suc (suc (suc zero))) r low = refl
each-is_simple (suc (suc (suc (suc zero)))) r low = refl
each-is_simple (suc (suc (suc (suc (suc k))))) r low = absurd (omega arith)

-- none has a rule on another
each-is_free : (k : ℕ) (r : Rule) → k < 5 → (rule k r).is_free ≡ true
each-is_free zero r low = refl
each-is_free (suc zero) r low = refl
each-is_free (suc (suc zero)) r low = refl
each-is_free (suc (suc (suc zero))) r low = refl
each-is_free (suc (suc (suc (suc zero)))) r low = refl
each-is_free (suc (suc (suc (suc (suc k))))) r low = absurd (omega arith)

plain_arg : (a : Arg) → is_simple_arg a ≡ true → is_free_arg a ≡ true → IsPlainArg a
plain_arg a simple free =
    let overrides = both _ _ simple in
    let groups = both _ _ (both _ _ overrides.1).1 in
    let exclusive = both _ _ free in
    let conflicts = both _ _ exclusive.1 in
    (is_false _ exclusive.0, is_nil _ conflicts.0, is_nil _ overrides.0, is_nil _ groups.0)

no_delimiter : {X : Type 0} (o : Option X) → is_some o ≡ false → o ≡ None
no_delimiter None e = refl
no_delimiter (Some x) e = absurd (true≢false e)

undelimited : (a : Arg) → is_simple_arg a ≡ true → a.val_delim ≡ None
undelimited a simple =
    let overrides = both (is_empty a.overrides.items) _ simple in
    let defaults = both (is_empty a.default_vals_ifs.items) _ overrides.1 in
    let groups = both (is_empty a.groups.items) _ defaults.1 in
    no_delimiter _ (is_false _ (both (not (is_some a.val_delim)) _ groups.1).0)

-- some argument of a list that is not empty
first_arg : (xs : List Arg) → 0 < length xs → Arg
first_arg [] some = absurd (omega arith)
first_arg (x ∷ xs) some = x

-- ---- values

head_passes : (P : Text → Type 0) (vs : List (Bor Text)) → All (λ v. P v.now) vs → is_some (option_map (λ s. s.now) (slice_get vs 0)) ≡ true
    → IsSomeAnd (option_map (λ s. s.now) (slice_get vs 0)) P
head_passes P [] passes some = absurd (true≢false (sym some))
head_passes P (v ∷ vs) passes some = All-get_or (λ v. P v.now) (v ∷ vs) 0 v (omega arith) passes

-- the first value of what was found under an id
first_passes : (P : Text → Type 0) (f : Found) (id : Text) → ((x : MatchedArg) → matched_of f id ≡ Some x → All (λ v. P v.now) x.vals.items)
    → is_some (first_value f id) ≡ true → IsSomeAnd (first_value f id) P
first_passes P f id passes = go (matched_of f id) refl
  where
    go : (o : Option MatchedArg) → matched_of f id ≡ o → is_some (option_and_then (λ (a : MatchedArg). option_map (λ s. s.now) (slice_get a.vals.items 0)) o) ≡ true
        → IsSomeAnd (option_and_then (λ (a : MatchedArg). option_map (λ s. s.now) (slice_get a.vals.items 0)) o) P
    go None is some = absurd (true≢false (sym some))
    go (Some x) is some = head_passes P x.vals.items (passes x is) some

texts_pass : (P : Text → Type 0) (vs : List (Bor Text)) → All (λ v. P v.now) vs → All P (map (λ v. v.now) vs)
texts_pass P [] passes k d lt = absurd (omega arith)
texts_pass P (v ∷ vs) passes zero d lt = passes 0 v (omega arith)
texts_pass P (v ∷ vs) passes (suc k) d lt = texts_pass P vs (λ i e low. passes (suc i) e (omega arith)) k d (omega arith)

-- all values of what was found under an id
all_pass : (P : Text → Type 0) (f : Found) (id : Text) → ((x : MatchedArg) → matched_of f id ≡ Some x → All (λ v. P v.now) x.vals.items)
    → All P (unwrap_or (option_map raw_values (matched_of f id)) [])
all_pass P f id passes = go (matched_of f id) refl
  where
    go : (o : Option MatchedArg) → matched_of f id ≡ o → All P (unwrap_or (option_map raw_values o) [])
    go None is = All-nil P
    go (Some x) is = texts_pass P x.vals.items (passes x is)

accepted : (a y : Arg) (q : ValueParser) (t : Text) → SameRules a y → a.value_parser ≡ Some q → Accepts y.ignore_case (parser_of y) t → Accepts a.ignore_case q t
accepted a y q t same is accepts =
    let parser : parser_of y ≡ q = ap parser_of_value (same.parser q is) in
    subst (λ (b : Bool). Accepts b q t) same.ignore_case (subst (λ (w : ValueParser). Accepts y.ignore_case w t) parser accepts)

-- ---- a parse

module _ (c : Command) (is : app_of c ≡ program) (m : ArgMatches) (p : IsParsedFrom c m) where
  rules : map rule_of (args_of c) ≡ program.top.rules
  rules = ap (λ (a : App). a.top.rules) is

  count : length (args_of c) ≡ 5
  count = sym (length-map (args_of c) rule_of) ∙ ap length rules

  rule_at : (k : ℕ) (d : Arg) → k < length (args_of c) → rule_of (slice_index_or (args_of c) k d) ≡ rule k (rule_of d)
  rule_at k d lt = sym (get_or-map rule_of (args_of c) k d (rule_of d) lt) ∙ ap (λ l. slice_index_or l k (rule_of d)) rules

  simple : (k : ℕ) (d : Arg) → k < length (args_of c) → is_simple_arg (slice_index_or (args_of c) k d) ≡ true
  simple k d lt = ap (λ (r : Rule). r.is_simple) (rule_at k d lt) ∙ each-is_simple k (rule_of d) (omega (arith, count))

  free : (k : ℕ) (d : Arg) → k < length (args_of c) → is_free_arg (slice_index_or (args_of c) k d) ≡ true
  free k d lt = ap (λ (r : Rule). r.is_free) (rule_at k d lt) ∙ each-is_free k (rule_of d) (omega (arith, count))

  fields : HasPlainFields c
  fields = plain_fields c (ap (λ (a : App). a.top.is_plain) is)

  plain : IsPlain c
  plain = ((λ k d lt. plain_arg (slice_index_or (args_of c) k d) (simple k d lt) (free k d lt)), fields.groups)

  negates : (out-Command c).subcommand_negates_reqs ≡ false
  negates = ap (λ (a : App). a.top.subcommand_negates_reqs) is

  any : Arg
  any = first_arg (args_of c) (omega (arith, count))

  -- the argument in a place, and its id
  abbrev arg : ℕ → Arg
  arg k = slice_index_or (args_of c) k any

  abbrev id : ℕ → Text
  id k = (arg k).id.now

  in_list : (k : ℕ) → k < 3 → k < length (args_of c)
  in_list k low = omega (arith, count)

  id_is : (k : ℕ) → k < 3 → id k ≡ (rule k (rule_of any)).id
  id_is k low = ap (λ (r : Rule). r.id) (rule_at k any (in_list k low))

  only : (k : ℕ) → k < 3 → (j : ℕ) (e : Arg) → j < length (args_of c) → bytes_eq (slice_index_or (args_of c) j e).id.now (id k) ≡ true → j ≡ k
  only k low j e lt same =
      let id_there : (slice_index_or (args_of c) j e).id.now ≡ (rule j (rule_of e)).id = ap (λ (r : Rule). r.id) (rule_at j e lt) in
      distinct k j (rule_of any) (rule_of e) low (omega (arith, count)) (rw (← id_is k low, ← id_there) same)

  id_named : (k : ℕ) → k < 3 → id k ≡ [] → ⊥
  id_named k low empty = named k (rule_of any) low (sym (id_is k low) ∙ empty)

  id_own : (k : ℕ) → k < 3 → IsAuto (arg k) → ⊥
  id_own k low (inl help) = own k (rule_of any) low (inl (sym (id_is k low) ∙ help))
  id_own k low (inr version) = own k (rule_of any) low (inr (sym (id_is k low) ∙ version))

  -- each value of an option passed its parser
  values_pass : (k : ℕ) → k < 3 → (q : ValueParser) → (arg k).value_parser ≡ Some q → (x : MatchedArg) → matched_of (found_of m) (id k) ≡ Some x
      → All (λ v. Accepts (arg k).ignore_case q v.now) x.vals.items
  values_pass k low q parser x found =
      let parsed = p.parsed (p.from.globals ∙ fields.globals) in
      let got = entry_by_id (EntryPasses p.built) (found_of m).entries.items (id k) x parsed.values found in
      let key : got.0.0.now ≡ id k = (bytes_eq-Decides got.0.0.now (id k)).0 got.2 in
      let no_groups : groups_of p.built ≡ [] = (p.from.plain plain).1 in
      let all : All (λ v. PassesArg p.built (id k) v.now) x.vals.items = elim got.3.0 [
        | inl group ↦ elim (got.3.3 group) [
          | inl empty ↦ absurd (id_named k low (sym key ∙ empty))
          | inr some ↦
              let bad : 0 < 0 = rw no_groups at some in
              absurd (omega arith)
        ]
        | inr values ↦ subst (λ (w : Text). All (λ v. PassesArg p.built w v.now) x.vals.items) key
            (subst (λ (y : MatchedArg). All (λ v. PassesArg p.built got.0.0.now v.now) y.vals.items) got.1 values)
      ] in
      λ i d lt. let pass = all i d lt in
      accepted _ pass.1 q _ (same_rules_by_id c m p k any (in_list k low) (only k low) (id_own k low) pass.0 pass.1 pass.2 pass.3 pass.4.0) parser pass.4.1

  -- a required option has a value
  has_value : (k : ℕ) → k < 3 → (rule k (rule_of any)).required ≡ true → (rule k (rule_of any)).action ≡ Some Set
      → (rule k (rule_of any)).range ≡ None → is_some (first_value (found_of m) (id k)) ≡ true
  has_value k low required action range =
      let at = rule_at k any (in_list k low) in
      let least : least_values (arg k) ≡ 1 = ap (λ r. (unwrap_or_range r).start_inclusive) (ap (λ (r : Rule). r.range) at ∙ range) in
      required_has_value c m p plain fields.globals negates k any (in_list k low)
      (ap (λ (r : Rule). r.required) at ∙ required) (ap (λ (r : Rule). r.action) at ∙ action)
      (undelimited (arg k) (simple k any (in_list k low))) (omega (arith, least)) (only k low) (id_named k low) (id_own k low)

  parser_at : (k : ℕ) → k < 3 → (arg k).value_parser ≡ (rule k (rule_of any)).parser
  parser_at k low = ap (λ (r : Rule). r.parser) (rule_at k any (in_list k low))

  node_passes : IsSomeAnd (first_of (codes "node") (rows_of (found_of m))) (IsUnsignedIn 1 4294967295)
  node_passes = subst (λ o. IsSomeAnd o (IsUnsignedIn 1 4294967295))
      (first_value-rows (found_of m) (id 0) ∙ ap (λ t. first_of t (rows_of (found_of m))) (id_is 0 (omega arith)))
      (first_passes (IsUnsignedIn 1 4294967295) (found_of m) (id 0) (values_pass 0 (omega arith) (Unsigned 1 4294967295) (parser_at 0 (omega arith)))
      (has_value 0 (omega arith) refl refl refl))

  dir_passes : IsSomeAnd (first_of (codes "dir") (rows_of (found_of m))) IsPath
  dir_passes = subst (λ o. IsSomeAnd o IsPath)
      (first_value-rows (found_of m) (id 1) ∙ ap (λ t. first_of t (rows_of (found_of m))) (id_is 1 (omega arith)))
      (first_passes IsPath (found_of m) (id 1) (values_pass 1 (omega arith) NonEmptyString (parser_at 1 (omega arith)))
      (has_value 1 (omega arith) refl refl refl))

  keys_pass : All IsPath (keys_of (rows_of (found_of m)))
  keys_pass = subst (λ o. All IsPath (unwrap_or o []))
      (raw_values-rows (found_of m) (id 2) ∙ ap (λ t. all_of t (rows_of (found_of m))) (id_is 2 (omega arith)))
      (all_pass IsPath (found_of m) (id 2) (values_pass 2 (omega arith) NonEmptyString (parser_at 2 (omega arith))))

  pub whole : IsWhole (rows_of (found_of m))
  whole = (node_passes, dir_passes, keys_pass)
