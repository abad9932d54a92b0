-- Bytes say one thing at most to a machine.
use Rattle.std.proofs.Common.{◌≡◌, ◌∙◌, ◌⊎◌, inl, inr, refl, sym, ap, subst, ℕ, List, [], ◌∷◌, codes, get_or, arith, rules}
use Rattle.fl_labels.specs.Words.{IsNumber}
use Rattle.fl_aliases.specs.Words.{Word, words_of}
use Rattle.fl_script.specs.Grammar.{Matches, SpellsRequest, request_forms}
use Rattle.fl_script.specs.declared.request.Request.{Request}
use Rattle.fl_script.specs.laws.Agreement.{Agree, Both, agree}
use Rattle.fl_script.specs.laws.JobKinds.{kind_of}
use Rattle.fl_script.specs.laws.OneLine.{one_of, one_request}
use Rattle.fl_script.specs.laws.OneWord.{no_letter, same_bytes, same_cap, same_pid}
use Rattle.fl_labels.specs.declared.cap.Cap.TheVariants.{Use}
use Rattle.fl_jobs.specs.declared.job.Job.{Job as AnyJob}
use Rattle.fl_labels.specs.laws.OneReading.{same_number}
use Rattle.fl_machine_lines.specs.Grammar.{IsPlace, Spells, asked_forms, explanation_forms, line_forms}
use Rattle.fl_machine_lines.specs.Reading.{AreAlike, IsReading, SaysLine, SaysNone}
use Rattle.fl_machine_lines.specs.laws.AsScript.{Sort, sort_of, begins_with, no_receive, no_begin_receive, no_own, verb_of}
use Rattle.fl_machine_lines.specs.laws.AsScript.Sort.{script, receive, begin_receive, own}
use Rattle.fl_machine_lines.specs.parts.Asking.{IsOwn}
use Rattle.fl_machine_lines.specs.parts.Asking.IsOwn.{could, missing, explain}
use Rattle.fl_machine_lines.specs.declared.asked.Asked.{Asked}
use Rattle.fl_machine_lines.specs.declared.asked.Asked.TheVariants.{Receive, BeginReceive, Could, Missing, Explain}
use Rattle.fl_machine_lines.specs.declared.explaining.Explanation.{Explanation}
use Rattle.fl_machine_lines.specs.declared.explaining.Explanation.TheVariants.{Log, Why, WhyGroup, Who, Show, ShowProcess}
use Rattle.fl_machine_lines.specs.declared.line.MachineLine.{MachineLine}
use Rattle.fl_machine_lines.specs.declared.line.MachineLine.TheVariants.{Quiet, Bad, Echo, Audit, Asks}

-- the words of what is received are no request
not_received : (request : Request) (bytes : List ℕ) (words : List Word)
    → Matches (asked_forms (Receive bytes)) words → SpellsRequest request words → ⊥
not_received request bytes [] s t = absurd s
not_received request bytes (verb ∷ words) s t =
    no_receive request words (subst (λ v. SpellsRequest request (v ∷ words)) s.0 t)

not_begun : (request : Request) (bytes : List ℕ) (words : List Word)
    → Matches (asked_forms (BeginReceive bytes)) words → SpellsRequest request words → ⊥
not_begun request bytes [] s t = absurd s
not_begun request bytes (verb ∷ []) s t = absurd s.1
not_begun request bytes (verb ∷ word ∷ words) s t =
    no_begin_receive request words (subst (SpellsRequest request) (λ i. s.0 i ∷ s.1.0 i ∷ words) t)

same_place : (m n : ℕ) → Both (IsPlace m) (IsPlace n) → m ≡ n
same_place m n both =
    same_number m n both.left.in_range both.right.in_range (sym both.left.written ∙ both.right.written)

-- words ask for one explanation at most
one_explanation : (a b : Explanation) → Agree (explanation_forms a) (explanation_forms b) → a ≡ b
one_explanation (Why p c) (Why q d) g =
    let pids = same_pid p q g.1.0 in
    let caps = same_cap c d g.1.1.0 in cc
one_explanation (Why p c) (WhyGroup h d) g = absurd (search (rules, g.1.0.left, g.1.0.right))
one_explanation (Why p c) other g = absurd (search (rules, g.0.left, g.0.right))
one_explanation (WhyGroup f c) (Why q d) g = absurd (search (rules, g.1.0.left, g.1.0.right))
one_explanation (WhyGroup f c) (WhyGroup h d) g =
    let uses = same_cap (Use f) (Use h) g.1.0 in
    let groups : f ≡ h = cc uses in
    let caps = same_cap c d g.1.1.0 in cc
one_explanation (WhyGroup f c) other g = absurd (search (rules, g.0.left, g.0.right))
one_explanation (Log m) (Log n) g = ap Log (same_place m n g.1.0)
one_explanation (Log m) other g = absurd (search (rules, g.0.left, g.0.right))
one_explanation (Who c) (Who d) g = ap Who (same_cap c d g.1.0)
one_explanation (Who c) other g = absurd (search (rules, g.0.left, g.0.right))
one_explanation Show Show g = refl
one_explanation Show (ShowProcess q) g = absurd g.1
one_explanation Show other g = absurd (search (rules, g.0.left, g.0.right))
one_explanation (ShowProcess p) Show g = absurd g.1
one_explanation (ShowProcess p) (ShowProcess q) g = ap ShowProcess (same_pid p q g.1.0)
one_explanation (ShowProcess p) other g = absurd (search (rules, g.0.left, g.0.right))

-- and what is to be explained is not to be foretold
pub not_could : (what : Explanation) → codes "could" ≡ verb_of (explain what) → ⊥
not_could (Log place) e = absurd (cc e)
not_could (Why pid cap) e = absurd (cc e)
not_could (WhyGroup group cap) e = absurd (cc e)
not_could (Who cap) e = absurd (cc e)
not_could Show e = absurd (cc e)
not_could (ShowProcess pid) e = absurd (cc e)

pub not_missing : (what : Explanation) → codes "missing" ≡ verb_of (explain what) → ⊥
not_missing (Log place) e = absurd (cc e)
not_missing (Why pid cap) e = absurd (cc e)
not_missing (WhyGroup group cap) e = absurd (cc e)
not_missing (Who cap) e = absurd (cc e)
not_missing Show e = absurd (cc e)
not_missing (ShowProcess pid) e = absurd (cc e)

explains_no_could : (what : Explanation) (job : AnyJob) (words : List Word)
    → Matches (explanation_forms what) words → Matches (asked_forms (Could job)) words → ⊥
explains_no_could what job [] s t = absurd t
explains_no_could what job (verb ∷ words) s t =
    not_could what (sym t.0 ∙ begins_with (explain what) verb words s)

explains_no_missing : (what : Explanation) (job : AnyJob) (words : List Word)
    → Matches (explanation_forms what) words → Matches (asked_forms (Missing job)) words → ⊥
explains_no_missing what job [] s t = absurd t
explains_no_missing what job (verb ∷ words) s t =
    not_missing what (sym t.0 ∙ begins_with (explain what) verb words s)

-- so of what no script asks words ask one thing at most
one_own : {a b : Asked} → IsOwn a → IsOwn b → (words : List Word) → Matches (asked_forms a) words
    → Matches (asked_forms b) words → a ≡ b
one_own (could j) (could k) words s t =
    let both = agree (asked_forms (Could j)) (asked_forms (Could k)) words s t in ap Could
    (one_of (kind_of j) (kind_of k) both.1)
one_own (missing j) (missing k) words s t =
    let both = agree (asked_forms (Missing j)) (asked_forms (Missing k)) words s t in ap Missing
    (one_of (kind_of j) (kind_of k) both.1)
one_own (could j) (missing k) words s t =
    let both = agree (asked_forms (Could j)) (asked_forms (Missing k)) words s t in absurd
    (search (rules, both.0.left, both.0.right))
one_own (missing j) (could k) words s t =
    let both = agree (asked_forms (Missing j)) (asked_forms (Could k)) words s t in absurd
    (search (rules, both.0.left, both.0.right))
one_own (explain a) (explain b) words s t =
    ap Explain (one_explanation a b (agree (explanation_forms a) (explanation_forms b) words s t))
one_own (explain a) (could k) words s t = absurd (explains_no_could a k words s t)
one_own (could j) (explain b) words s t = absurd (explains_no_could b j words t s)
one_own (explain a) (missing k) words s t = absurd (explains_no_missing a k words s t)
one_own (missing j) (explain b) words s t = absurd (explains_no_missing b j words t s)

-- which brings nothing
not_receive : {asked : Asked} (is : IsOwn asked) → verb_of is ≡ codes "receive" → ⊥
not_receive (could job) e = absurd (omega (arith, ap (λ l. get_or l 0 0) e))
not_receive (missing job) e = absurd (omega (arith, ap (λ l. get_or l 0 0) e))
not_receive (explain (Log place)) e = absurd (cc e)
not_receive (explain (Why pid cap)) e = absurd (cc e)
not_receive (explain (WhyGroup group cap)) e = absurd (cc e)
not_receive (explain (Who cap)) e = absurd (cc e)
not_receive (explain Show) e = absurd (cc e)
not_receive (explain (ShowProcess pid)) e = absurd (cc e)

not_begin : {asked : Asked} (is : IsOwn asked) → verb_of is ≡ codes "begin" → ⊥
not_begin (could job) e = absurd (omega (arith, ap (λ l. get_or l 0 0) e))
not_begin (missing job) e = absurd (omega (arith, ap (λ l. get_or l 0 0) e))
not_begin (explain (Log place)) e = absurd (cc e)
not_begin (explain (Why pid cap)) e = absurd (cc e)
not_begin (explain (WhyGroup group cap)) e = absurd (cc e)
not_begin (explain (Who cap)) e = absurd (cc e)
not_begin (explain Show) e = absurd (cc e)
not_begin (explain (ShowProcess pid)) e = absurd (cc e)

pub no_bringing : {asked : Asked} → IsOwn asked → (words : List Word)
    → Matches (asked_forms asked) words → (verb : Word) (behind : List Word) → words ≡ verb ∷ behind
    → ((verb ≡ codes "receive") ⊎ (verb ≡ codes "begin")) → ⊥
no_bringing is [] s verb behind at which = absurd (cc at)
no_bringing is (word ∷ words) s verb behind at which =
    let same : word ≡ verb = cc at in
    let begins : verb ≡ verb_of is = sym same ∙ begins_with is word words s in
    elim which [
      | inl e ↦ not_receive is (sym begins ∙ e)
      | inr e ↦ not_begin is (sym begins ∙ e)
    ]

not_both : {asked : Asked} → IsOwn asked → (bytes : List ℕ) (words : List Word)
    → Matches (asked_forms asked) words → Matches (asked_forms (Receive bytes)) words → ⊥
not_both is bytes [] s t = absurd t
not_both is bytes (verb ∷ words) s t =
    no_bringing is (verb ∷ words) s verb words refl (inl t.0)

not_begun_both : {asked : Asked} → IsOwn asked → (bytes : List ℕ) (words : List Word)
    → Matches (asked_forms asked) words → Matches (asked_forms (BeginReceive bytes)) words → ⊥
not_begun_both is bytes [] s t = absurd t
not_begun_both is bytes (verb ∷ words) s t =
    no_bringing is (verb ∷ words) s verb words refl (inr t.0)

-- words ask one thing at most
one_asked : {a b : Asked} → Sort a → Sort b → (words : List Word) → Matches (asked_forms a) words
    → Matches (asked_forms b) words → a ≡ b
one_asked (script a x e f) (script b y g h) words s t =
    let both = one_request x y
    (agree (request_forms x) (request_forms y) words (f words s) (h words t)) in cc
one_asked (script a x e f) (receive bytes) words s t =
    absurd (not_received x bytes words t (f words s))
one_asked (script a x e f) (begin_receive bytes) words s t =
    absurd (not_begun x bytes words t (f words s))
one_asked (receive bytes) (script b y g h) words s t =
    absurd (not_received y bytes words s (h words t))
one_asked (begin_receive bytes) (script b y g h) words s t =
    absurd (not_begun y bytes words s (h words t))
one_asked (receive x) (receive y) words s t =
    let both = agree (asked_forms (Receive x)) (asked_forms (Receive y)) words s t in ap Receive
    (same_bytes x y both.1.0)
one_asked (begin_receive x) (begin_receive y) words s t =
    let both = agree (asked_forms (BeginReceive x)) (asked_forms (BeginReceive y)) words s t in ap
    BeginReceive (same_bytes x y both.1.1.0)
one_asked (script a x e f) (own is) words s t = absurd (no_own x is words t (f words s))
one_asked (own is) (script b y g h) words s t = absurd (no_own y is words s (h words t))
one_asked (own p) (own q) words s t = one_own p q words s t
one_asked (own is) (receive y) words s t = absurd (not_both is y words s t)
one_asked (receive x) (own is) words s t = absurd (not_both is x words t s)
one_asked (own is) (begin_receive y) words s t = absurd (not_begun_both is y words s t)
one_asked (begin_receive x) (own is) words s t = absurd (not_begun_both is x words t s)
one_asked (receive x) (begin_receive y) words s t =
    let both = agree (asked_forms (Receive x)) (asked_forms (BeginReceive y)) words s t in absurd
    (search (rules, both.0.left, both.0.right))
one_asked (begin_receive x) (receive y) words s t =
    let both = agree (asked_forms (BeginReceive x)) (asked_forms (Receive y)) words s t in absurd
    (search (rules, both.0.left, both.0.right))

-- no machine's number is the word `echo`, nor `audit`
pub not_echo : (number : ℕ) (word : Word) → IsNumber number word → word ≡ codes "echo" → ⊥
not_echo number word is e = no_letter number 101 _ word (omega arith) is e

pub not_audit : (number : ℕ) (word : Word) → IsNumber number word → word ≡ codes "audit" → ⊥
not_audit number word is e = no_letter number 97 _ word (omega arith) is e

one_form : (number : ℕ) (a b : MachineLine) (words : List Word) → Spells number a words
    → Spells number b words → AreAlike a b
one_form number a b [] s t = absurd (nothing a s)
  where
    nothing : (line : MachineLine) → Spells number line [] → ⊥
    nothing Quiet s = absurd s
    nothing Bad s = absurd s
    nothing (Echo text) s = absurd s
    nothing Audit s = absurd s
    nothing (Asks asked) s = absurd s
one_form number Quiet b (word ∷ words) s t = absurd s.0
one_form number Bad b (word ∷ words) s t = absurd s.0
one_form number (Echo text) Quiet (word ∷ words) s t = absurd t.0
one_form number (Echo text) Bad (word ∷ words) s t = absurd t.0
one_form number (Echo text) (Echo other) (word ∷ words) s t =
    let both =
    agree (line_forms number (Echo text)) (line_forms number (Echo other)) (word ∷ words) s t in
    cc (both.1.0.left.same, both.1.0.right.same)
one_form number (Echo text) Audit (word ∷ words) s t = absurd (search (rules, s.0, t.0))
one_form number (Echo text) (Asks asked) (word ∷ words) s t = absurd (not_echo number word t.0 s.0)
one_form number Audit Quiet (word ∷ words) s t = absurd t.0
one_form number Audit Bad (word ∷ words) s t = absurd t.0
one_form number Audit (Echo other) (word ∷ words) s t = absurd (search (rules, s.0, t.0))
one_form number Audit Audit (word ∷ words) s t = refl
one_form number Audit (Asks asked) (word ∷ words) s t = absurd (not_audit number word t.0 s.0)
one_form number (Asks asked) Quiet (word ∷ words) s t = absurd t.0
one_form number (Asks asked) Bad (word ∷ words) s t = absurd t.0
one_form number (Asks asked) (Echo other) (word ∷ words) s t = absurd (not_echo number word s.0 t.0)
one_form number (Asks asked) Audit (word ∷ words) s t = absurd (not_audit number word s.0 t.0)
one_form number (Asks asked) (Asks other) (word ∷ words) s t =
    ap Asks (one_asked (sort_of asked) (sort_of other) words s.1 t.1)

one_said : (number : ℕ) (bytes : List ℕ) (r s : MachineLine) → SaysLine number bytes r
    → SaysLine number bytes s → AreAlike r s
one_said number bytes r s p q = one_form number r s (words_of bytes) p.spelled q.spelled

not_none : (number : ℕ) (bytes : List ℕ) (line : MachineLine) → SaysLine number bytes line
    → SaysNone number bytes → ⊥
not_none number bytes line p q = q.none p.plain line p.spelled

pub one_reading : (number : ℕ) (bytes : List ℕ) (r s : MachineLine) → IsReading number bytes r
    → IsReading number bytes s → AreAlike r s
one_reading number bytes Quiet Quiet p q = refl
one_reading number bytes Quiet Bad p q = absurd (q.loud p)
one_reading number bytes Quiet (Echo word) p q = absurd (q.loud p)
one_reading number bytes Quiet Audit p q = absurd (q.loud p)
one_reading number bytes Quiet (Asks asked) p q = absurd (q.loud p)
one_reading number bytes Bad Quiet p q = absurd (p.loud q)
one_reading number bytes Bad Bad p q = refl
one_reading number bytes Bad (Echo word) p q = absurd (not_none number bytes (Echo word) q p)
one_reading number bytes Bad Audit p q = absurd (not_none number bytes Audit q p)
one_reading number bytes Bad (Asks asked) p q = absurd (not_none number bytes (Asks asked) q p)
one_reading number bytes (Echo word) Quiet p q = absurd (p.loud q)
one_reading number bytes (Echo word) Bad p q = absurd (not_none number bytes (Echo word) p q)
one_reading number bytes (Echo a) (Echo b) p q = one_said number bytes (Echo a) (Echo b) p q
one_reading number bytes (Echo a) Audit p q = one_said number bytes (Echo a) Audit p q
one_reading number bytes (Echo a) (Asks b) p q = one_said number bytes (Echo a) (Asks b) p q
one_reading number bytes Audit Quiet p q = absurd (p.loud q)
one_reading number bytes Audit Bad p q = absurd (not_none number bytes Audit p q)
one_reading number bytes Audit (Echo b) p q = one_said number bytes Audit (Echo b) p q
one_reading number bytes Audit Audit p q = refl
one_reading number bytes Audit (Asks b) p q = one_said number bytes Audit (Asks b) p q
one_reading number bytes (Asks asked) Quiet p q = absurd (p.loud q)
one_reading number bytes (Asks asked) Bad p q = absurd (not_none number bytes (Asks asked) p q)
one_reading number bytes (Asks a) (Echo b) p q = one_said number bytes (Asks a) (Echo b) p q
one_reading number bytes (Asks a) Audit p q = one_said number bytes (Asks a) Audit p q
one_reading number bytes (Asks a) (Asks b) p q = one_said number bytes (Asks a) (Asks b) p q
