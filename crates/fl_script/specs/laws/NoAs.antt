-- No word of a line is `as`.
use Rattle.std.proofs.Common.{◌≡◌, ◌≢◌, ◌≤◌, ◌<◌, ◌^◌, ℕ, suc, true, false, nat_eq, List, [], ◌∷◌, ◌++◌, length, codes, get_or, sym, ap, refl, ◌∙◌, true≢false, append-nil, arith}
use Rattle.std.specs.declared.result.Result.{Result}
use Rattle.std.specs.declared.result.Result.TheVariants.{Ok, Err}
use Rattle.std.specs.Cmp.Lexicographic.{pointwise, bytes_decides}
use Rattle.std.specs.Fmt.{decimal}
use Rattle.std.specs.Str.Parse.{AllDigits}
use Rattle.std.proofs.lemmas.Str.Parse.{digit_from_value}
use Rattle.std.proofs.lemmas.Fmt.{digits_decimal, decimal_nonempty}
use Rattle.fl_labels.specs.ItemText.{own}
use Rattle.fl_labels.specs.Name.{name_cmp}
use Rattle.fl_labels.specs.SetBy.{SetBy}
use Rattle.fl_labels.specs.Text.{name_text, pid_text, cap_text, endpoint_text}
use Rattle.fl_labels.specs.Words.{IsNumber}
use Rattle.fl_labels.specs.declared.cap.Cap.{Cap}
use Rattle.fl_labels.specs.declared.cap.Cap.TheVariants.{Plus, Minus, Use, Grow}
use Rattle.fl_labels.specs.declared.endpoint.Endpoint.{Endpoint}
use Rattle.fl_labels.specs.declared.name.Name.{Name}
use Rattle.fl_labels.specs.declared.pid.Pid.{Pid}
use Rattle.fl_ops.specs.PolicyText.{policy_text}
use Rattle.fl_ops.specs.declared.op.Policy.{Policy}
use Rattle.fl_ops.specs.declared.op.Policy.TheVariants.{Export, Read, Integrity}
use Rattle.fl_rules.specs.declared.endpoint.Mode.{Mode}
use Rattle.fl_rules.specs.declared.endpoint.Mode.TheVariants.{Read as ReadMode, Write, Both as BothWays}
use Rattle.fl_jobs.specs.declared.job.Side.{Side}
use Rattle.fl_jobs.specs.declared.job.Side.TheVariants.{Secrecy, Integrity as IntegritySide}
use Rattle.fl_jobs.specs.declared.job.TooLong.{TooLong}
use Rattle.fl_jobs.specs.declared.job.Act.TheVariants.{Order as Orders}
use Rattle.fl_jobs.specs.declared.job.Job.{Job}
use Rattle.fl_jobs.specs.declared.job.Job.TheVariants.{By}
use Rattle.fl_aliases.specs.Words.{Word}
use Rattle.fl_script.specs.Grammar.{Is, Matches, job_forms, request_forms, forms, Spells}
use Rattle.fl_script.specs.Reading.{makes, job_makes}
use Rattle.hex.specs.Hex.{decode_pairs}
use Rattle.fl_labels.specs.Cap.{cap_cmp}
use Rattle.fl_jobs.specs.declared.secret.Secret.{Secret}
use Rattle.fl_script.specs.Words.{side_text, mode_text, IsLabelWord, IsCapsWord, HasDigits, IsSecretWord, IsBytesWord}
use Rattle.fl_script.specs.declared.line.Line.{Line}
use Rattle.fl_script.specs.declared.line.Line.TheVariants.{Node as OfNode, Union, Audit, Aliases}
use Rattle.fl_script.specs.declared.request.Request.{Request}
use Rattle.fl_script.specs.declared.request.Request.TheVariants.{Job as OfJob, Begin, Deliver, BeginDeliver, Tell, Save, Publish, Cancel, Restart, Text, Check}
use Rattle.fl_script.specs.laws.JobKinds.{Kind, kind_of}
use Rattle.fl_script.specs.laws.JobKinds.Kind.{proc, tag, group, put, make_login, open_group, relabel, ask, spawn, exit, drop, enter, emit, opens, tune, close, send, take, member, arrive}

-- the word `as` is not of this form
abbrev pub Lacks : (Word → Type 0) → Type 0
Lacks p = p (codes "as") → ⊥

-- nor of any of these
abbrev pub AllLack : List (Word → Type 0) → Type 0
AllLack [] = Unit {0}
AllLack (p ∷ ps) = Lacks p × AllLack ps

-- a text that another test tells from `as`
verb : (text : List ℕ) → pointwise nat_eq (codes "as") text ≡ false → Lacks (Is text)
verb text other e = true≢false (sym ((bytes_decides (codes "as") text).1 e) ∙ other)

-- a text that does not begin with `a`
first : (b : ℕ) (rest : List ℕ) → b ≢ 97 → Lacks (Is (b ∷ rest))
first b rest other e = other (sym (ap (λ l. get_or l 0 97) e))

-- a text that begins with a digit
digit : (ds rest : List ℕ) → AllDigits 10 ds → 0 < length ds → Lacks (Is (ds ++ rest))
digit [] rest a some e = absurd (omega (arith, some))
digit (c ∷ ds) rest a some e = let range = digit_from_value c a.0 in absurd (omega (arith, range.0, ap (λ l. get_or l 0 0) e))

number : (n : ℕ) (rest : List ℕ) → n < 2 ^ 64 → Lacks (Is (decimal n ++ rest))
number n rest small = digit (decimal n) rest (digits_decimal own n small) (decimal_nonempty n small)

digit_only : (ds : List ℕ) → AllDigits 10 ds → Lacks (Is ds)
digit_only [] a e = absurd (omega (arith, ap length e))
digit_only (c ∷ ds) a e = digit (c ∷ ds) [] a (omega arith) (e ∙ sym (append-nil (c ∷ ds)))

node : (n : ℕ) → Lacks (IsNumber n)
node n s = digit_only (decimal n) (digits_decimal own n (small n s.in_range)) s.written
  where
    small : (n : ℕ) → n < 2 ^ 32 → n < 2 ^ 64
    small n low = omega (arith, low)

packet : (n : ℕ) → Lacks (IsNumber n)
packet n s = digit_only (decimal n) (digits_decimal own n (small n s.in_range)) s.written
  where
    small : (n : ℕ) → n < 2 ^ 32 → n < 2 ^ 64
    small n low = omega (arith, low)

name : (n : Name) → Lacks (Is (name_text n))
name n = number n.node (46 ∷ decimal n.seq) (omega (arith, n.node_in_range))

pid : (p : Pid) → Lacks (Is (pid_text p))
pid p = first 112 _ (λ e. absurd (omega (arith, e)))

endpoint : (e : Endpoint) → Lacks (Is (endpoint_text e))
endpoint e = first 101 _ (λ h. absurd (omega (arith, h)))

cap : (c : Cap) → Lacks (Is (cap_text c))
cap (Plus n) = first 43 (name_text n) (λ e. absurd (omega (arith, e)))
cap (Minus n) = first 45 (name_text n) (λ e. absurd (omega (arith, e)))
cap (Use n) = first 42 (name_text n) (λ e. absurd (omega (arith, e)))
cap (Grow n) = first 94 (name_text n) (λ e. absurd (omega (arith, e)))

policy : (p : Policy) → Lacks (Is (policy_text p))
policy Export = verb (codes "export") refl
policy Read = verb (codes "read") refl
policy Integrity = verb (codes "integrity") refl

side : (s : Side) → Lacks (Is (side_text s))
side Secrecy = verb (codes "S") refl
side IntegritySide = verb (codes "I") refl

mode : (m : Mode) → Lacks (Is (mode_text m))
mode ReadMode = verb (codes "r") refl
mode Write = verb (codes "w") refl
mode BothWays = verb (codes "rw") refl

-- a list in braces begins with `{`
label : (l : Result (SetBy name_cmp) TooLong) → Lacks (IsLabelWord l)
label (Ok l) s = first 123 _ (λ e. absurd (omega (arith, e))) s.listed.spelled
label (Err e) s = first 123 _ (λ e. absurd (omega (arith, e))) s.listed.spelled

caps : (set : SetBy cap_cmp) → Lacks (IsCapsWord set)
caps set s = first 123 _ (λ e. absurd (omega (arith, e))) s.spelled

-- `s` is no hexadecimal digit
digits : (bytes : List ℕ) → Lacks (HasDigits bytes)
unfolding decode_pairs
digits bytes e = absurd (cc)

secret : (x : Secret) → Lacks (IsSecretWord x)
secret x = digits x.bytes

payload : (bytes : List ℕ) → Lacks (IsBytesWord bytes)
payload [] = verb (codes "none") refl
payload (b ∷ bytes) = digits (b ∷ bytes)

-- the words of each job
of_job : {job : Job} → Kind job → AllLack (job_forms job)
of_job proc = (verb (codes "proc") refl, tt)
of_job (tag p x) = (verb (codes "tag") refl, (pid p, (policy x, tt)))
of_job (group p) = (verb (codes "group") refl, (pid p, tt))
of_job (put p into c) = (verb (codes "put") refl, (pid p, (name into, (cap c, tt))))
of_job (make_login p c x) = (verb (codes "make-login") refl, (pid p, (cap c, (secret x, tt))))
of_job (open_group p opened) = (verb (codes "open-group") refl, (pid p, (name opened, tt)))
of_job (relabel p x l) = (verb (codes "label") refl, (pid p, (side x, (label l, tt))))
of_job (ask p c) = (verb (codes "ask") refl, (pid p, (cap c, tt)))
of_job (spawn p set) = (verb (codes "spawn") refl, (pid p, (caps set, tt)))
of_job (exit p) = (verb (codes "exit") refl, (pid p, tt))
of_job (drop p c) = (verb (codes "drop") refl, (pid p, (cap c, tt)))
of_job (enter p login x) = (verb (codes "enter") refl, (pid p, (name login, (secret x, tt))))
of_job (emit p bytes) = (verb (codes "emit") refl, (pid p, (payload bytes, tt)))
of_job (opens p m given) = (verb (codes "open") refl, (pid p, (mode m, (label given.secrecy, (label given.integrity, tt)))))
of_job (tune p e given) = (verb (codes "tune") refl, (pid p, (endpoint e, (label given.secrecy, (label given.integrity, tt)))))
of_job (close p e) = (verb (codes "close") refl, (pid p, (endpoint e, tt)))
of_job (send p from receiver to m) = (verb (codes "send") refl, (pid p, (endpoint from, (pid receiver, (endpoint to, (caps m.caps, (payload m.payload, tt)))))))
of_job (take p) = (verb (codes "take") refl, (pid p, tt))
of_job (member r c) = (verb (codes "member") refl, (cap r, (cap c, tt)))
of_job (arrive d) = ((λ s. s), tt)

-- the words of what is asked of a node
of_request : (request : Request) → AllLack (request_forms request)
of_request (OfJob job) = of_job (kind_of job)
of_request (Begin p order) = (verb (codes "begin") refl, of_job (kind_of (By p (Orders order))))
of_request (Deliver k) = (verb (codes "deliver") refl, (packet k, tt))
of_request (BeginDeliver k) = (verb (codes "begin") refl, (verb (codes "deliver") refl, (packet k, tt)))
of_request Tell = (verb (codes "tell") refl, tt)
of_request Save = (verb (codes "save") refl, tt)
of_request Publish = (verb (codes "publish") refl, tt)
of_request Cancel = (verb (codes "cancel") refl, tt)
of_request (Restart false) = (verb (codes "restart") refl, tt)
of_request (Restart true) = (verb (codes "restart") refl, (verb (codes "kept") refl, tt))
of_request Text = (verb (codes "text") refl, tt)
of_request (Check bytes) = (verb (codes "check") refl, (payload bytes, tt))

-- the words of each line
of_line : (line : Line) → AllLack (forms line)
of_line (OfNode n request) = (node n, of_request request)
of_line (Union n m) = (verb (codes "union") refl, (node n, (node m, tt)))
of_line Audit = (verb (codes "audit") refl, tt)
of_line Aliases = (verb (codes "aliases") refl, tt)

at_front : (ps : List (Word → Type 0)) (front back : List Word) → AllLack ps → Matches ps (front ++ codes "as" ∷ back) → ⊥
at_front [] [] back lack s = s
at_front [] (word ∷ front) back lack s = s
at_front (p ∷ ps) [] back lack s = lack.0 s.0
at_front (p ∷ ps) (word ∷ front) back lack s = at_front ps front back lack.1 s.1

-- words with `as` among them spell no line
pub no_as : (line : Line) (front back : List Word) → Spells line (front ++ codes "as" ∷ back) → ⊥
no_as line front back s = at_front (forms line) front back (of_line line) s

few : {job : Job} → Kind job → length (job_forms job) ≤ 7
few proc = omega arith
few k = omega arith

-- a job that makes something has at most 5 words
few_made : {job : Job} → Kind job → job_makes job ≡ true → length (job_forms job) ≤ 5
few_made proc e = omega arith
few_made (tune p x given) e = absurd (true≢false (sym e))
few_made (send p from receiver to m) e = absurd (true≢false (sym e))
few_made k e = omega arith

few_asked : (request : Request) → length (request_forms request) ≤ 7
few_asked (OfJob job) = few (kind_of job)
few_asked (Begin p order) = omega (arith, few_made (kind_of (By p (Orders order))) refl)
few_asked (Restart false) = omega arith
few_asked (Restart true) = omega arith
few_asked request = omega arith

few_words : (line : Line) → length (forms line) ≤ 8
few_words (OfNode n request) = omega (arith, few_asked request)
few_words (Union n m) = omega arith
few_words Audit = omega arith
few_words Aliases = omega arith

-- a line that makes something has at most 6 words
few_words_made : (line : Line) → makes line ≡ true → length (forms line) ≤ 6
few_words_made (OfNode n (OfJob job)) e = omega (arith, few_made (kind_of job) e)
few_words_made line e = absurd (true≢false (sym e))

same_length : (ps : List (Word → Type 0)) (words : List Word) → Matches ps words → length words ≡ length ps
same_length [] [] s = refl
same_length [] (word ∷ words) s = absurd s
same_length (p ∷ ps) [] s = absurd s
same_length (p ∷ ps) (word ∷ words) s = ap suc (same_length ps words s.1)

-- a line has at most 8 words
pub few_spell : (line : Line) (words : List Word) → Spells line words → length words ≤ 8
few_spell line words s = omega (arith, few_words line, same_length (forms line) words s)

-- a line that makes something has at most 6 words
pub few_spell_made : (line : Line) (words : List Word) → makes line ≡ true → Spells line words → length words ≤ 6
few_spell_made line words e s = omega (arith, few_words_made line e, same_length (forms line) words s)
