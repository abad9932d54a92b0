-- Words of a line to a machine, and words of none.
use Rattle.std.proofs.Common.{◌≡◌, ◌≢◌, ◌∙◌, ◌<◌, ◌≤◌, inl, inr, refl, sym, ap, subst, ℕ, List, [], ◌∷◌, Bor, Option, None, Some, Result, Ok, Err, length, get_or, map, codes, arith, rules}
use Rattle.std.proofs.lemmas.List.{get_or-map}
use Rattle.fl_labels.specs.Found.{Finds}
use Rattle.fl_aliases.specs.Words.{Word}
use Rattle.fl_script.specs.Grammar.{Matches, Spells as SpellsScript}
use Rattle.fl_script.specs.declared.line.Line.TheVariants.{Node as OfNode}
use Rattle.fl_script.specs.declared.request.Request.{Request}
use Rattle.fl_script.specs.declared.unread.Unread.{Unread}
use Rattle.fl_script.specs.laws.OneLine.{one_line}
use Rattle.fl_script.specs.parts.Reads.{Reads, StarvesIf}
use Rattle.fl_script.proofs.NodeLines.{no_words}
use Rattle.fl_machine_lines.specs.Grammar.{BringsBytes, IsEchoed, Spells, SpellsAsked}
use Rattle.fl_machine_lines.specs.laws.AsScript.{Sort, sort_of, from_script, no_words as no_own_words}
use Rattle.fl_machine_lines.specs.laws.AsScript.Sort.{script, receive, begin_receive, own}
use Rattle.fl_machine_lines.specs.laws.OneReading.{not_echo, not_audit, no_bringing}
use Rattle.fl_machine_lines.specs.parts.Asking.{AsksAsScript, AsksOwn, ExplainsOf, IsOwn, asked_of}
use Rattle.fl_machine_lines.specs.parts.Asking.IsOwn.{could, missing, explain}
use Rattle.fl_machine_lines.specs.declared.asked.Asked.{Asked}
use Rattle.fl_machine_lines.specs.declared.asked.Asked.TheVariants.{Explain}
use Rattle.fl_machine_lines.specs.declared.line.MachineLine.{MachineLine}
use Rattle.fl_machine_lines.specs.declared.line.MachineLine.TheVariants.{Quiet, Bad, Echo, Audit, Asks}

-- who starves where P holds starves only there
pub starved : {T P : Type 0} (r : Result T Unread) → P → StarvesIf r P
starved (Ok x) holds = tt
starved (Err e) holds = λ memory. holds

-- one word behind `receive` brings bytes
pub brings : (node : Word) (rest : List (Bor Word)) → 1 ≤ length rest → length rest < 2
    → BringsBytes (node ∷ codes "receive" ∷ map (λ w. w.now) rest)
brings node [] some one = absurd (omega (arith, some))
brings node (w ∷ []) some one = record {
  node = node;
  verbs = codes "receive" ∷ [];
  bytes = w.now;
  receives = inl refl;
  is = refl;
}
brings node (w ∷ v ∷ rest) some one = absurd (omega (arith, one))

pub begin_brings : (node : Word) (rest : List (Bor Word)) → 1 ≤ length rest → length rest < 2
    → BringsBytes (node ∷ codes "begin" ∷ codes "receive" ∷ map (λ w. w.now) rest)
begin_brings node [] some one = absurd (omega (arith, some))
begin_brings node (w ∷ []) some one = record {
  node = node;
  verbs = codes "begin" ∷ codes "receive" ∷ [];
  bytes = w.now;
  receives = inr refl;
  is = refl;
}
begin_brings node (w ∷ v ∷ rest) some one = absurd (omega (arith, one))

-- the words are those of nothing that is received
pub record NotReceived (words : List Word) : Type 0 where
  pub at_once : (node : Word) (behind : List Word) → words ≡ node ∷ codes "receive" ∷ behind → ⊥
  pub begun : (node : Word) (behind : List Word)
      → words ≡ node ∷ codes "begin" ∷ codes "receive" ∷ behind → ⊥

pub other_verb : (node verb : Word) (behind : List Word) → verb ≢ codes "receive"
    → verb ≢ codes "begin" → NotReceived (node ∷ verb ∷ behind)
other_verb node verb behind no_receive no_begin = record {
  at_once = λ other rest e. let is : verb ≡ codes "receive" = cc e in no_receive is;
  begun = λ other rest e. let is : verb ≡ codes "begin" = cc e in no_begin is;
}

first : (rest : List (Bor Word)) (d : Bor Word) → 1 ≤ length rest
    → (verb : Word) (behind : List Word) → map (λ w. w.now) rest ≡ verb ∷ behind
    → (get_or rest 0 d).now ≡ verb
first rest d long verb behind e =
    sym (get_or-map (λ w. w.now) rest 0 d [] (omega (arith, long))) ∙ ap (λ l. get_or l 0 []) e

pub other_begun : (words : List Word) (node : Word) (rest : List (Bor Word)) (d : Bor Word)
    → words ≡ node ∷ codes "begin" ∷ map (λ w. w.now) rest → 1 ≤ length rest
    → (get_or rest 0 d).now ≢ codes "receive" → NotReceived words
other_begun words node rest d is long no_receive = record {
  at_once = λ other behind e. let verbs : codes "begin" ≡ codes "receive" = cc in absurd (cc verbs);
  begun =
      λ other behind e. let words : map (λ w. w.now) rest ≡ codes "receive" ∷ behind = cc in
      no_receive (first rest d long (codes "receive") behind words);
}

-- the words ask nothing that no script asks
abbrev pub NoneOwn : ℕ → List Word → Type 0
NoneOwn number words = (asked : Asked) → IsOwn asked → SpellsAsked number asked words → ⊥

-- what is received is spelled by no such words
none_received : (number : ℕ) (words : List Word) → NotReceived words → {asked : Asked} → Sort asked
    → ((asked : Asked) → AsksAsScript number asked words → ⊥) → NoneOwn number words
    → SpellsAsked number asked words → ⊥
none_received number [] not kind none plain s = absurd s
none_received number (node ∷ words) not (script asked request e f) none plain s =
    none asked (record { request = request; alike = e; spelled = (s.0, f words s.1) })
none_received number (node ∷ []) not (receive bytes) none plain s = absurd s.1
none_received number (node ∷ verb ∷ words) not (receive bytes) none plain s =
    not.at_once node words (ap (λ v. node ∷ v ∷ words) s.1.0)
none_received number (node ∷ []) not (begin_receive bytes) none plain s = absurd s.1
none_received number (node ∷ verb ∷ []) not (begin_receive bytes) none plain s = absurd s.1.1
none_received number (node ∷ verb ∷ word ∷ words) not (begin_receive bytes) none plain s =
    not.begun node words (λ i. node ∷ s.1.0 i ∷ s.1.1.0 i ∷ words)
none_received number (node ∷ words) not {asked} (own is) none plain s = plain asked is s

-- so what a script asks by them is all that they ask
pub reads_script : (r : Result Asked Unread) (number : ℕ) (words : List Word) → NotReceived words
    → NoneOwn number words → Reads r (λ asked. AsksAsScript number asked words)
    → Reads r (λ asked. SpellsAsked number asked words)
reads_script (Ok asked) number words not plain s = from_script number asked words s
reads_script (Err e) number words not plain none =
    λ bad asked s. none_received number words not (sort_of asked) (none bad) plain s

-- words that a script asks nothing by ask what no script asks, or nothing
pub reads_own : (r : Result Asked Unread) (number : ℕ) (words : List Word) → NotReceived words
    → ((asked : Asked) → AsksAsScript number asked words → ⊥)
    → Reads r (λ asked. AsksOwn number asked words)
    → Reads r (λ asked. SpellsAsked number asked words)
reads_own (Ok asked) number words not none s = s.spelled
reads_own (Err e) number words not none plain =
    λ bad asked s. none_received number words not (sort_of asked) none
    (λ other is t. plain bad other (record { own = is; spelled = t })) s

-- what begins with `begin` asks for none
pub none_own : (number : ℕ) (words : List Word) (node : Word) (behind : List Word)
    → words ≡ node ∷ codes "begin" ∷ behind → NoneOwn number words
none_own number [] node behind e asked is s = absurd (cc e)
none_own number (word ∷ words) node behind e asked is s =
    let rest : words ≡ codes "begin" ∷ behind = cc e in
    no_bringing is words s.1 (codes "begin") behind rest (inr refl)

-- a word alone asks nothing
nothing_asked : (number : ℕ) (word : Word) {asked : Asked} → Sort asked
    → SpellsAsked number asked (word ∷ []) → ⊥
nothing_asked number word (script asked request e f) s =
    no_words number word s.0 [] (omega arith) (OfNode number request) (s.0, f [] s.1)
nothing_asked number word (receive bytes) s = absurd s.1
nothing_asked number word (begin_receive bytes) s = absurd s.1
nothing_asked number word (own is) s = no_own_words is s.1

pub few_ask_none : (number : ℕ) (words : List (Bor Word)) → length words < 2 → (asked : Asked)
    → SpellsAsked number asked (map (λ w. w.now) words) → ⊥
few_ask_none number [] few asked s = absurd s
few_ask_none number (word ∷ []) few asked s = nothing_asked number word.now (sort_of asked) s
few_ask_none number (word ∷ other ∷ words) few asked s = absurd (omega (arith, few))

-- behind another verb something is to be explained, or nothing is asked
pub finds_explained : (found : Option Asked) (number : ℕ) (node verb : Word) (behind : List Word)
    → verb ≢ codes "could" → verb ≢ codes "missing"
    → Finds found (λ asked. ExplainsOf number asked (node ∷ verb ∷ behind))
    → Finds found (λ asked. AsksOwn number asked (node ∷ verb ∷ behind))
finds_explained (Some asked) number node verb behind no_could no_missing e =
    subst (λ a. AsksOwn number a (node ∷ verb ∷ behind)) e.alike
    (record { own = explain e.what; spelled = e.spelled })
finds_explained None number node verb behind no_could no_missing none =
    λ asked asks. at asks.own asks.spelled
  where
    at : {asked : Asked} → IsOwn asked → SpellsAsked number asked (node ∷ verb ∷ behind) → ⊥
    at (could job) s = no_could s.1.0
    at (missing job) s = no_missing s.1.0
    at (explain what) s = none (Explain what) (record { what = what; alike = refl; spelled = s })

-- what is asked of the node that the words name is asked of the machine of this number
pub asked_by : (number node : ℕ) (request : Request) (words : List Word)
    → SpellsScript (OfNode node request) words → (found : Option Asked)
    → Finds found (λ asked. (node ≡ number) × (asked_of request ≡ Some asked))
    → Finds found (λ asked. AsksAsScript number asked words)
asked_by number node request words spelled (Some asked) found =
    let same = subst (λ n. SpellsScript (OfNode n request) words) found.0 spelled in
    record { request = request; alike = found.1; spelled = same }
asked_by number node request words spelled None none = λ asked s.
    let line = one_line (OfNode node request) (OfNode number s.request) words spelled s.spelled in
    let node_is : node ≡ number = cc line in
    let request_is : request ≡ s.request = cc line in
    none asked (node_is, ap asked_of request_is ∙ s.alike)

-- words whose first is `echo`, and that no word comes back of
pub no_echo : (number : ℕ) (words : List Word)
    → ((word : Bor Word) → Matches (IsEchoed word.now ∷ []) words → ⊥) → (line : MachineLine)
    → Spells number line (codes "echo" ∷ words) → ⊥
no_echo number words none Quiet s = absurd s.0
no_echo number words none Bad s = absurd s.0
no_echo number words none (Echo word) s = none word s.1
no_echo number words none Audit s = absurd (search (rules, s.0))
no_echo number words none (Asks asked) s = not_echo number (codes "echo") s.0 refl

-- words behind `audit`
pub no_audit : (number : ℕ) (rest : List (Bor Word)) → 1 ≤ length rest → (line : MachineLine)
    → Spells number line (codes "audit" ∷ map (λ w. w.now) rest) → ⊥
no_audit number [] some line s = absurd (omega (arith, some))
no_audit number (word ∷ rest) some Quiet s = absurd s.0
no_audit number (word ∷ rest) some Bad s = absurd s.0
no_audit number (word ∷ rest) some (Echo text) s = absurd (search (rules, s.0))
no_audit number (word ∷ rest) some Audit s = absurd s.1
no_audit number (word ∷ rest) some (Asks asked) s = not_audit number (codes "audit") s.0 refl

-- words whose first is neither
pub no_other : (number : ℕ) (word : Word) (words : List Word) → word ≢ codes "echo"
    → word ≢ codes "audit" → ((asked : Asked) → SpellsAsked number asked (word ∷ words) → ⊥)
    → (line : MachineLine) → Spells number line (word ∷ words) → ⊥
no_other number word words no_echo no_audit none Quiet s = absurd s.0
no_other number word words no_echo no_audit none Bad s = absurd s.0
no_other number word words no_echo no_audit none (Echo text) s = no_echo s.0
no_other number word words no_echo no_audit none Audit s = no_audit s.0
no_other number word words no_echo no_audit none (Asks asked) s = none asked s
