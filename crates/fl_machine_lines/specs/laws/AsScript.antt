-- What is asked of a machine's node: what a script asks in the same words, what is received, and what
-- no script asks.
use Rattle.std.proofs.Common.{◌≡◌, ◌≤◌, ap, refl, subst, suc, ℕ, List, [], ◌∷◌, Option, Some, length, codes, arith, rules}
use Rattle.fl_jobs.specs.declared.job.Act.TheVariants.{Order as Orders}
use Rattle.fl_jobs.specs.declared.job.Job.TheVariants.{By}
use Rattle.fl_aliases.specs.Words.{Word}
use Rattle.fl_script.specs.Grammar.{Matches, SpellsRequest, Spells as SpellsScript}
use Rattle.fl_script.specs.declared.line.Line.TheVariants.{Node as OfNode}
use Rattle.fl_script.specs.declared.request.Request.{Request}
use Rattle.fl_script.specs.declared.request.Request.TheVariants as requests
use Rattle.fl_script.specs.laws.JobKinds.{kind_of}
use Rattle.fl_script.specs.laws.NoAs.{few_spell}
use Rattle.fl_script.specs.laws.OneLine.{no_verb}
use Rattle.fl_machine_lines.specs.Grammar.{Spells, SpellsAsked, asked_forms, explanation_forms, line_forms}
use Rattle.fl_machine_lines.specs.parts.Asking.{AsksAsScript, IsOwn, asked_of}
use Rattle.fl_machine_lines.specs.parts.Asking.IsOwn.{could, missing, explain}
use Rattle.fl_machine_lines.specs.declared.asked.Asked.{Asked}
use Rattle.fl_machine_lines.specs.declared.asked.Asked.TheVariants.{Job, Begin, Receive, BeginReceive, Tell, Save, Publish, Cancel, Text, Check, Could, Missing, Explain}
use Rattle.fl_machine_lines.specs.declared.explaining.Explanation.{Explanation}
use Rattle.fl_machine_lines.specs.declared.explaining.Explanation.TheVariants.{Log, Why, WhyGroup, Who, Show, ShowProcess}
use Rattle.fl_machine_lines.specs.declared.line.MachineLine.{MachineLine}
use Rattle.fl_machine_lines.specs.declared.line.MachineLine.TheVariants.{Quiet, Bad, Echo, Audit, Asks}

-- what is asked, by its sort alone
pub data Sort : Asked → Type 0 where
  script : (asked : Asked) (request : Request) → asked_of request ≡ Some asked
      → ((words : List Word) → Matches (asked_forms asked) words → SpellsRequest request words)
      → Sort asked
  receive : (bytes : List ℕ) → Sort (Receive bytes)
  begin_receive : (bytes : List ℕ) → Sort (BeginReceive bytes)
  own : {asked : Asked} → IsOwn asked → Sort asked

pub sort_of : (asked : Asked) → Sort asked
sort_of (Job job) = script (Job job) (requests.Job job) refl (λ words s. s)
sort_of (Begin pid order) = script (Begin pid order) (requests.Begin pid order) refl (λ words s. s)
sort_of (Receive bytes) = receive bytes
sort_of (BeginReceive bytes) = begin_receive bytes
sort_of Tell = script Tell requests.Tell refl (λ words s. s)
sort_of Save = script Save requests.Save refl (λ words s. s)
sort_of Publish = script Publish requests.Publish refl (λ words s. s)
sort_of Cancel = script Cancel requests.Cancel refl (λ words s. s)
sort_of Text = script Text requests.Text refl (λ words s. s)
sort_of (Check bytes) = script (Check bytes) (requests.Check bytes) refl (λ words s. s)
sort_of (Could job) = own (could job)
sort_of (Missing job) = own (missing job)
sort_of (Explain what) = own (explain what)

same : {a b : Asked} → ◌≡◌ {A = Option Asked} (Some a) (Some b) → a ≡ b
same e = cc e

by_request : (number : ℕ) (request : Request) (asked : Asked) (words : List Word)
    → asked_of request ≡ Some asked → SpellsScript (OfNode number request) words
    → SpellsAsked number asked words
by_request number (requests.Job job) asked words e s =
    subst (λ a. SpellsAsked number a words) (same e) s
by_request number (requests.Begin pid order) asked words e s =
    subst (λ a. SpellsAsked number a words) (same e) s
by_request number (requests.Deliver packet) asked words e s = absurd (cc e)
by_request number (requests.BeginDeliver packet) asked words e s = absurd (cc e)
by_request number requests.Tell asked words e s = subst (λ a. SpellsAsked number a words) (same e) s
by_request number requests.Save asked words e s = subst (λ a. SpellsAsked number a words) (same e) s
by_request number requests.Publish asked words e s =
    subst (λ a. SpellsAsked number a words) (same e) s
by_request number requests.Cancel asked words e s =
    subst (λ a. SpellsAsked number a words) (same e) s
by_request number (requests.Restart kept) asked words e s = absurd (cc e)
by_request number requests.Text asked words e s = subst (λ a. SpellsAsked number a words) (same e) s
by_request number (requests.Check bytes) asked words e s =
    subst (λ a. SpellsAsked number a words) (same e) s

-- what a script asks of the node, its machine is asked in the same words
pub from_script : (number : ℕ) (asked : Asked) (words : List Word) → AsksAsScript number asked words
    → SpellsAsked number asked words
from_script number asked words s = by_request number s.request asked words s.alike s.spelled

-- no request begins with `receive`
pub no_receive : (request : Request) (words : List Word)
    → SpellsRequest request (codes "receive" ∷ words) → ⊥
no_receive (requests.Job job) words s = no_verb (codes "receive") refl (kind_of job) words s
no_receive requests.Tell words s = absurd (search (rules, s.0))
no_receive request words s = absurd (search (rules, s.0))

-- nor with `begin receive`
pub no_begin_receive : (request : Request) (words : List Word)
    → SpellsRequest request (codes "begin" ∷ codes "receive" ∷ words) → ⊥
no_begin_receive (requests.Job job) words s =
    no_verb (codes "begin") refl (kind_of job) (codes "receive" ∷ words) s
no_begin_receive (requests.Begin pid order) words s =
    no_verb (codes "receive") refl (kind_of (By pid (Orders order))) words s.1
no_begin_receive (requests.BeginDeliver packet) words s = absurd (search (rules, s.1.0))
no_begin_receive requests.Tell words s = absurd (search (rules, s.0))
no_begin_receive request words s = absurd (search (rules, s.0))

-- nor with what the words begin with that no script has
abbrev pub verb_of : {asked : Asked} → IsOwn asked → Word
verb_of (could job) = codes "could"
verb_of (missing job) = codes "missing"
verb_of (explain (Log place)) = codes "log"
verb_of (explain (Why pid cap)) = codes "why"
verb_of (explain (WhyGroup group cap)) = codes "why"
verb_of (explain (Who cap)) = codes "who"
verb_of (explain Show) = codes "show"
verb_of (explain (ShowProcess pid)) = codes "show"

no_could : (request : Request) (words : List Word) → SpellsRequest request (codes "could" ∷ words)
    → ⊥
no_could (requests.Job job) words s = no_verb (codes "could") refl (kind_of job) words s
no_could requests.Tell words s = absurd (search (rules, s.0))
no_could request words s = absurd (search (rules, s.0))

no_missing : (request : Request) (words : List Word)
    → SpellsRequest request (codes "missing" ∷ words) → ⊥
no_missing (requests.Job job) words s = no_verb (codes "missing") refl (kind_of job) words s
no_missing requests.Tell words s = absurd (search (rules, s.0))
no_missing request words s = absurd (search (rules, s.0))

no_why : (request : Request) (words : List Word) → SpellsRequest request (codes "why" ∷ words) → ⊥
no_why (requests.Job job) words s = no_verb (codes "why") refl (kind_of job) words s
no_why requests.Tell words s = absurd (search (rules, s.0))
no_why request words s = absurd (search (rules, s.0))

no_log : (request : Request) (words : List Word) → SpellsRequest request (codes "log" ∷ words) → ⊥
no_log (requests.Job job) words s = no_verb (codes "log") refl (kind_of job) words s
no_log requests.Tell words s = absurd (search (rules, s.0))
no_log request words s = absurd (search (rules, s.0))

no_who : (request : Request) (words : List Word) → SpellsRequest request (codes "who" ∷ words) → ⊥
no_who (requests.Job job) words s = no_verb (codes "who") refl (kind_of job) words s
no_who requests.Tell words s = absurd (search (rules, s.0))
no_who request words s = absurd (search (rules, s.0))

no_show : (request : Request) (words : List Word) → SpellsRequest request (codes "show" ∷ words)
    → ⊥
no_show (requests.Job job) words s = no_verb (codes "show") refl (kind_of job) words s
no_show requests.Tell words s = absurd (search (rules, s.0))
no_show request words s = absurd (search (rules, s.0))

no_verb_of : (request : Request) {asked : Asked} (is : IsOwn asked) (words : List Word)
    → SpellsRequest request (verb_of is ∷ words) → ⊥
no_verb_of request (could job) words s = no_could request words s
no_verb_of request (missing job) words s = no_missing request words s
no_verb_of request (explain (Log place)) words s = no_log request words s
no_verb_of request (explain (Why pid cap)) words s = no_why request words s
no_verb_of request (explain (WhyGroup group cap)) words s = no_why request words s
no_verb_of request (explain (Who cap)) words s = no_who request words s
no_verb_of request (explain Show) words s = no_show request words s
no_verb_of request (explain (ShowProcess pid)) words s = no_show request words s

pub begins_with : {asked : Asked} (is : IsOwn asked) (verb : Word) (words : List Word)
    → Matches (asked_forms asked) (verb ∷ words) → verb ≡ verb_of is
begins_with (could job) verb words s = s.0
begins_with (missing job) verb words s = s.0
begins_with (explain (Log place)) verb words s = s.0
begins_with (explain (Why pid cap)) verb words s = s.0
begins_with (explain (WhyGroup group cap)) verb words s = s.0
begins_with (explain (Who cap)) verb words s = s.0
begins_with (explain Show) verb words s = s.0
begins_with (explain (ShowProcess pid)) verb words s = s.0

pub no_words : {asked : Asked} → IsOwn asked → Matches (asked_forms asked) [] → ⊥
no_words (could job) s = absurd s
no_words (missing job) s = absurd s
no_words (explain (Log place)) s = absurd s
no_words (explain (Why pid cap)) s = absurd s
no_words (explain (WhyGroup group cap)) s = absurd s
no_words (explain (Who cap)) s = absurd s
no_words (explain Show) s = absurd s
no_words (explain (ShowProcess pid)) s = absurd s

-- so the words that no script has are no request
pub no_own : (request : Request) {asked : Asked} → IsOwn asked → (words : List Word)
    → Matches (asked_forms asked) words → SpellsRequest request words → ⊥
no_own request is [] s t = no_words is s
no_own request is (verb ∷ words) s t =
    no_verb_of request is words
    (subst (λ v. SpellsRequest request (v ∷ words)) (begins_with is verb words s) t)

same_length : (ps : List (Word → Type 0)) (words : List Word) → Matches ps words
    → length words ≡ length ps
same_length [] [] s = refl
same_length [] (word ∷ words) s = absurd s
same_length (p ∷ ps) [] s = absurd s
same_length (p ∷ ps) (word ∷ words) s = ap suc (same_length ps words s.1)

few_explain : (what : Explanation) (words : List Word) → Matches (explanation_forms what) words
    → length words ≤ 3
few_explain (Why pid cap) words s =
    omega (arith, same_length (explanation_forms (Why pid cap)) words s)
few_explain (WhyGroup group cap) words s =
    omega (arith, same_length (explanation_forms (WhyGroup group cap)) words s)
few_explain (Log place) words s =
    omega (arith, same_length (explanation_forms (Log place)) words s)
few_explain (Who cap) words s = omega (arith, same_length (explanation_forms (Who cap)) words s)
few_explain Show words s = omega (arith, same_length (explanation_forms Show) words s)
few_explain (ShowProcess pid) words s =
    omega (arith, same_length (explanation_forms (ShowProcess pid)) words s)

few_own : (number : ℕ) {asked : Asked} → IsOwn asked → (word : Word) (words : List Word)
    → SpellsAsked number asked (word ∷ words) → length (word ∷ words) ≤ 9
few_own number (could job) word [] s = absurd s.1
few_own number (could job) word (verb ∷ words) s =
    omega (arith, few_spell (OfNode number (requests.Job job)) (word ∷ words) (s.0, s.1.1))
few_own number (missing job) word [] s = absurd s.1
few_own number (missing job) word (verb ∷ words) s =
    omega (arith, few_spell (OfNode number (requests.Job job)) (word ∷ words) (s.0, s.1.1))
few_own number (explain what) word words s = omega (arith, few_explain what words s.1)

few_asked : (number : ℕ) {asked : Asked} → Sort asked → (words : List Word)
    → SpellsAsked number asked words → length words ≤ 9
few_asked number kind [] s = omega arith
few_asked number (script asked request e f) (word ∷ words) s =
    omega (arith, few_spell (OfNode number request) (word ∷ words) (s.0, f words s.1))
few_asked number (receive bytes) (word ∷ words) s =
    omega (arith, same_length (asked_forms (Receive bytes)) words s.1)
few_asked number (begin_receive bytes) (word ∷ words) s =
    omega (arith, same_length (asked_forms (BeginReceive bytes)) words s.1)
few_asked number (own is) (word ∷ words) s = few_own number is word words s

-- a line to a machine has at most 9 words
pub few_spell_line : (number : ℕ) (line : MachineLine) (words : List Word)
    → Spells number line words → length words ≤ 9
few_spell_line number (Asks asked) words s = few_asked number (sort_of asked) words s
few_spell_line number Quiet words s = omega (arith, same_length (line_forms number Quiet) words s)
few_spell_line number Bad words s = omega (arith, same_length (line_forms number Bad) words s)
few_spell_line number (Echo text) words s =
    omega (arith, same_length (line_forms number (Echo text)) words s)
few_spell_line number Audit words s = omega (arith, same_length (line_forms number Audit) words s)
