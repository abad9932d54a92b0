-- A parse of words by a command with no subcommand fails in one way, if it does.
use Rattle.std.proofs.Common.{◌≡◌, ◌&&◌, ◌∙◌, ℕ, Bool, cond, zero, suc, true, false, List, [], ◌∷◌, length, drop, Option, Some, None, is_some, ap, refl, sym, subst, inl, inr, ◌⊎◌}
use Rattle.std.specs.Prelude.{encode_utf8, nat_lt, slice_get, ◌==◌}
use Rattle.std.specs.Str.{chars}
use Rattle.std.specs.Option.{option_map_or}
use Rattle.clap.specs.Facts.{parser_of_value, unwrap_or_range}
use Rattle.clap.specs.Faults.{action_fault, built_fault, bundle_fault, bundle_step_fault, check_fault, count_fault, default_fault, defaults_fault, entered_fault, fault_of, flag_word_fault, flags_fault, level_fault, long_fault, option_fault, other_fault, positional_fault, react_fault, set_fault, settle_fault, short_fault, step_fault, stray_fault, turn_fault, use_fault, walk_fault}
use Rattle.clap.specs.Kinds.{IsAmong, Kinds, check_kinds, or_else, range_kinds, request_kinds, value_kinds, values_kinds}
use Rattle.clap.specs.Simple.{App, Shape, argument_words, built, entered, names_of}
use Rattle.clap.specs.Walk.{Held, Names, Row, Rule, Step, Text, Waiting, Walk, action_of, most_values, nothing_held, reacted, takes_values, value, values_or_missing, walked, with_default}
use Rattle.clap.specs.Walk as walk
use Rattle.clap.specs.declared.builder.action.ArgAction.{ArgAction}
use Rattle.clap.specs.declared.builder.action.ArgAction.TheVariants.{Append, Count, Help, HelpLong, HelpShort, Set, SetFalse, SetTrue, Version}
use Rattle.clap.specs.declared.builder.value_parser.ValueParser.{ValueParser}
use Rattle.clap.specs.declared.error.kind.ErrorKind.{ErrorKind}
use Rattle.clap.specs.declared.error.kind.ErrorKind.TheVariants as kind
use Rattle.fl_node_words.specs.declared.words.WordsFault.TheVariants.{Memory, Refused, Shown}
use Rattle.fl_node_words.specs.Words.{fault_by, program}

-- there is one kind, or none
pub record IsOne (kinds : Kinds) : Type 0 where
  pub same : (k l : ErrorKind) → IsAmong k kinds → IsAmong l kinds → k ≡ l

none : IsOne []
none = record { same = λ k l there again. absurd there }

one : (x : ErrorKind) → IsOne (x ∷ [])
one x = record { same = λ k l there again. single k l there again }
  where
    single : (k l : ErrorKind) → IsAmong k (x ∷ []) → IsAmong l (x ∷ []) → k ≡ l
    single k l (inl there) (inl again) = there ∙ sym again
    single k l (inr there) again = absurd there
    single k l (inl there) (inr again) = absurd again

-- where an error of one kind is told as refused, the words are not right and ask for no text
pub refused : (kinds : Kinds) (k : ErrorKind) → IsOne kinds → (k ≡ kind.OutOfMemory) ⊎ IsAmong k kinds → fault_by k ≡ Refused
    → (kinds ≡ [] → ⊥) × (IsAmong kind.DisplayHelp kinds ⊎ IsAmong kind.DisplayVersion kinds → ⊥)
refused kinds k single (inl memory) is = absurd (memory_is_refused (sym (ap fault_by memory) ∙ is))
  where
    memory_is_refused : Memory ≡ Refused → ⊥
    memory_is_refused e = cc
refused kinds k single (inr among) is = (
  (λ right. subst (IsAmong k) right among),
  (λ asked. shown_is_refused (elim asked [
    | inl help ↦ sym (ap fault_by (single.same k kind.DisplayHelp among help)) ∙ is
    | inr version ↦ sym (ap fault_by (single.same k kind.DisplayVersion among version)) ∙ is
  ])),
)
  where
    shown_is_refused : Shown ≡ Refused → ⊥
    shown_is_refused e = cc

either : (a b : Kinds) → IsOne a → IsOne b → IsOne (or_else a b)
either [] b first second = second
either (k ∷ ks) b first second = first

choice : (t : Bool) (a b : Kinds) → IsOne a → IsOne b → IsOne (cond t a b)
choice true a b first second = first
choice false a b first second = second

perhaps : {X : Type 0} (f : X → Kinds) (o : Option X) → ((x : X) → IsOne (f x)) → IsOne (option_map_or f o [])
perhaps f None each = none
perhaps f (Some x) each = each x

-- ---- one use of an argument

value_one : (ignore_case : Bool) (parser : ValueParser) (text : Text) → IsOne (value_kinds ignore_case parser text)
value_one ignore_case parser text = choice _ _ _ none (one _)

values_one : (ignore_case : Bool) (parser : ValueParser) (values : List Text) → IsOne (values_kinds ignore_case parser values)
values_one ignore_case parser [] = none
values_one ignore_case parser (v ∷ vs) = either _ _ (value_one ignore_case parser v) (values_one ignore_case parser vs)

range_one : (least most n : ℕ) → IsOne (range_kinds least most n)
range_one least most n =
    choice (nat_lt 0 least && n == 0) (kind.InvalidValue ∷ []) _ (one _)
    (choice (least == most) _ _ (choice (least == n) [] (kind.WrongNumberOfValues ∷ []) none (one _))
    (choice (nat_lt n least) (kind.TooFewValues ∷ []) _ (one _) (choice (nat_lt most n) (kind.TooManyValues ∷ []) [] (one _) none)))

request_one : (a : ArgAction) → IsOne (request_kinds a)
request_one Set = none
request_one Append = none
request_one SetTrue = none
request_one SetFalse = none
request_one Count = none
request_one Help = one _
request_one HelpShort = one _
request_one HelpLong = one _
request_one Version = one _

count_one : (a : Rule) (values : List Text) (rows : List Row) → IsOne (count_fault a values rows)
count_one a [] rows = value_one a.ignore_case (parser_of_value a.parser) _
count_one a (v ∷ vs) rows = values_one a.ignore_case (parser_of_value a.parser) (v ∷ vs)

set_one : (again : Bool) (a : Rule) (values : List Text) (rows : List Row) → IsOne (set_fault again a values rows)
set_one again a values rows =
    either _ _ (choice _ _ _ (one _) none) (values_one a.ignore_case (parser_of_value a.parser) values)

action_one : (action : ArgAction) (again : Bool) (a : Rule) (values : List Text) (rows : List Row) → IsOne (action_fault action again a values rows)
action_one Set again a values rows = set_one again a values rows
action_one SetTrue again a values rows = set_one again a values rows
action_one SetFalse again a values rows = set_one again a values rows
action_one Append again a values rows = values_one a.ignore_case (parser_of_value a.parser) values
action_one Count again a values rows = count_one a values rows
action_one Help again a values rows = one _
action_one HelpShort again a values rows = one _
action_one HelpLong again a values rows = one _
action_one Version again a values rows = one _

use_one : (again : Bool) (a : Rule) (values : List Text) (rows : List Row) → IsOne (use_fault again a values rows)
use_one again a values rows =
    either _ _ (range_one (unwrap_or_range a.range).start_inclusive (most_values a) (length values))
    (action_one (action_of a) again a (values_or_missing a values) rows)

-- ---- the walk

module _ (c : List Rule) (again : Bool) where
  settle_one : (h : Held) → IsOne (settle_fault c again h)
  settle_one h = perhaps _ h.pending (λ p. perhaps _ (walk.arg_by_id c p.0) (λ a. use_one again a p.1 h.rows))

  react_one : (a : Rule) (values : List Text) (h : Held) → IsOne (react_fault c again a values h)
  react_one a values h = either _ _ (settle_one h) (use_one again a values _)

  option_one : (a : Rule) (v : Option Text) (h : Held) → IsOne (option_fault c again a v h)
  option_one a (Some v) h = react_one a (v ∷ []) h
  option_one a None h = settle_one h

  long_one : (found : Option Rule) (v : Option Text) (h : Held) → IsOne (long_fault c again found v h)
  long_one None v h = one _
  long_one (Some a) v h = choice _ _ _ (option_one a v h) (choice _ _ _ (one _) (react_one a [] h))

  short_one : (found : Option Rule) (rest : Text) (h : Held) (next : Held → Kinds) → ((k : Held) → IsOne (next k)) → IsOne (short_fault c again found rest h next)
  short_one None rest h next each = one _
  short_one (Some a) rest h next each = choice _ _ _ (option_one a _ h) (either _ _ (react_one a [] h) (each _))

  bundle_step_one : (x : Option ℕ) (flags : Text) (skip : ℕ) (h : Held) (next : Text → ℕ → Held → Kinds)
      → ((t : Text) (n : ℕ) (k : Held) → IsOne (next t n k)) → IsOne (bundle_step_fault c again x flags skip h next)
  bundle_step_one None flags skip h next each = none
  bundle_step_one (Some x) flags zero h next each =
      short_one (walk.arg_by_short c x) (drop (length (encode_utf8 x)) flags) h (next (drop (length (encode_utf8 x)) flags) 0)
      (λ k. each (drop (length (encode_utf8 x)) flags) 0 k)
  bundle_step_one (Some x) flags (suc skip) h next each = each _ skip h

  flags_one : (k : ℕ) (flags : Text) (skip : ℕ) (h : Held) → IsOne (flags_fault c again k flags skip h)
  unfolding flags_fault
  flags_one zero flags skip h = none
  flags_one (suc k) flags skip h =
      bundle_step_one (slice_get (chars flags) 0) flags skip h (flags_fault c again k) (λ t n g. flags_one k t n g)

  flag_word_one : (long : Option (Text × Option Text)) (word : Text) (h : Held) → IsOne (flag_word_fault c again long word h)
  flag_word_one (Some p) word h = long_one (walk.arg_by_long c p.0) p.1 h
  flag_word_one None word h = perhaps (λ flags. bundle_fault c again flags h) _ (λ flags. flags_one (length flags) flags h.skip _)

both_false : (t : Bool) (kinds : Kinds) → IsOne (cond (t && false) kinds [])
both_false true kinds = none
both_false false kinds = none

-- the command has no subcommand, and so none for help
module _ (s : Shape) (is_leaf : s.is_leaf ≡ true) (no_help : s.disable_help_subcommand ≡ true) (names : Names) where
  other_one : (met : Option Text) (word : Text) (h : Held) → IsOne (other_fault s met word h)
  other_one (Some name) word h = rw no_help (both_false _ _)
  other_one None word h = choice _ _ _ none (flag_word_one s.rules s.args_override_self _ word h)

  stray_one : IsOne (stray_fault s)
  stray_one = rw is_leaf (one _)

  step_one : (position : ℕ) (h : Held) (step : Step) → IsOne (step_fault s position h step)
  step_one position h value = go (walk.arg_by_index s.rules position)
    where
      go : (o : Option Rule) → IsOne (option_map_or (λ a. positional_fault s.rules s.args_override_self a h) o (stray_fault s))
      go None = stray_one
      go (Some a) = choice _ _ _ none (settle_one s.rules s.args_override_self h)
  step_one position h (walk.next waiting) = none
  step_one position h (walk.trailing at) = none
  step_one position h (walk.subcommand name) = none

  turn_one : (w : Walk) (word : Text) → IsOne (turn_fault s names w word)
  turn_one w word =
      let met = walk.word_met s.rules names w.is_trailing w.waiting w.position word w.held in
      choice _ _ _ none (either _ _ (choice w.is_trailing _ _ none (other_one (walk.subcommand_met names w.waiting word) word w.held))
      (step_one w.position met.0 met.1))

  walk_one : (w : Walk) (words : List Text) → IsOne (walk_fault s names w words)
  unfolding walk_fault
  walk_one w [] = none
  walk_one w (word ∷ rest) = either _ _ (turn_one w word) (walk_one (walked s.rules names w word) rest)

-- ---- after the walk

default_one : (rows : List Row) (a : Rule) → IsOne (default_fault rows a)
default_one rows a =
    choice _ _ _ none (either _ _ (request_one _) (values_one a.ignore_case (parser_of_value a.parser) a.defaults))

defaults_one : (rows : List Row) (rules : List Rule) → IsOne (defaults_fault rows rules)
unfolding defaults_fault
defaults_one rows [] = none
defaults_one rows (a ∷ rest) = either _ _ (default_one rows a) (defaults_one (with_default rows a) rest)

check_one : (help sub arg : Bool) → IsOne (check_kinds help sub arg)
check_one help sub arg = choice help (kind.DisplayHelpOnMissingArgumentOrSubcommand ∷ []) _ (one _)
    (choice sub (kind.MissingSubcommand ∷ []) _ (one _) (choice arg (kind.MissingRequiredArgument ∷ []) [] (one _) none))

entered_one : (a : App) (stop : Option (Text × List Text)) → a.subs ≡ [] → IsOne (entered_fault a stop)
entered_one a stop no_subs = rw no_subs (perhaps _ stop (λ p. none))

last_one : (s : Shape) (rows : List Row) (has_subcommand : Bool) → IsOne (check_fault s rows has_subcommand)
last_one s rows has_subcommand = check_one _ _ _

level_one : (s : Shape) → s.is_leaf ≡ true → s.disable_help_subcommand ≡ true → (names : Names) (h : Held) (words : List Text) (has_subcommand : Bool) (below : Kinds)
    → IsOne below → IsOne (level_fault s names h words has_subcommand below)
level_one s is_leaf no_help names h words has_subcommand below below_one =
    let end = (walk.walk s.rules names h words).held in
    either (walk_fault s names (walk.walk_from h) words) _ (walk_one s is_leaf no_help names (walk.walk_from h) words)
    (either below _ below_one
    (either (settle_fault s.rules s.args_override_self end) _ (settle_one s.rules s.args_override_self end)
    (either (defaults_fault (walk.settled s.rules end).rows s.rules) _ (defaults_one (walk.settled s.rules end).rows s.rules)
    (last_one s (walk.finished s.rules end) has_subcommand))))

built_one : (a : App) (h : Held) (words : List Text) → a.subs ≡ [] → a.top.is_leaf ≡ true → a.top.disable_help_subcommand ≡ true
    → IsOne (built_fault a h words)
built_one a h words no_subs is_leaf no_help =
    let stop = (walk.walk a.top.rules (names_of a) h words).stopped in
    level_one a.top is_leaf no_help (names_of a) h words (is_some (entered a stop)) (entered_fault a stop) (entered_one a stop no_subs)

-- the program's parse
pub one_fault : (words : List Text) → IsOne (fault_of program words)
one_fault words = built_one (built program) nothing_held (argument_words program words) refl refl refl
