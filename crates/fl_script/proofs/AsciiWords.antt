-- A line that says something is ASCII.
use Rattle.std.proofs.Common.{◌≡◌, ◌<◌, ◌^◌, ◌&&◌, ℕ, Bool, true, ◌==◌, List, [], ◌∷◌, Option, None, Some, length, map, sym, ap, refl, ◌∙◌, codes, arith}
use Rattle.std.proofs.Math.Bool.{and-true}
use Rattle.std.specs.declared.result.Result.{Result}
use Rattle.std.specs.declared.result.Result.TheVariants.{Ok, Err}
use Rattle.std.specs.Bool.{Decides}
use Rattle.std.specs.Char.{is_ascii}
use Rattle.std.specs.Fmt.{decimal}
use Rattle.std.specs.List.{All, AllPass, AllZip, list_all, join_with_byte, slice_split}
use Rattle.std.specs.Str.{IsAscii}
use Rattle.std.proofs.lemmas.Bool.{ne_eqb, and_from}
use Rattle.std.proofs.lemmas.Bool.Decides.{Decides-by_and, Decides-ltb, nat_tests}
use Rattle.std.proofs.lemmas.Fmt.{IsAscii-decimal}
use Rattle.std.proofs.lemmas.List.Elements.{All-weaker}
use Rattle.std.proofs.lemmas.List.Folds.{list_all-append, list_all-map}
use Rattle.std.proofs.lemmas.List.Splits.{join_with_byte-slice_split}
use Rattle.std.proofs.lemmas.List.Sums.{list_all-from_AllPass}
use Rattle.std.proofs.lemmas.Str.Ascii.{All-from_ascii, IsAscii-from_all}
use Rattle.hex.specs.Hex.{is_hex_digit}
use Rattle.hex.proofs.HexLemmas.{decode_of-ok}
use Rattle.fl_labels.specs.Cap.{cap_cmp, cap_name}
use Rattle.fl_labels.specs.Name.{name_cmp}
use Rattle.fl_labels.specs.SetBy.{SetBy}
use Rattle.fl_labels.specs.Text.{name_text, pid_text, cap_text, endpoint_text, braces}
use Rattle.fl_labels.specs.Words.{IsNumber}
use Rattle.fl_labels.specs.declared.cap.Cap.{Cap}
use Rattle.fl_labels.specs.declared.cap.Cap.TheVariants.{Plus}
use Rattle.fl_labels.specs.declared.endpoint.Endpoint.{Endpoint}
use Rattle.fl_labels.specs.declared.name.Name.{Name}
use Rattle.fl_labels.specs.declared.pid.Pid.{Pid}
use Rattle.fl_ops.specs.PolicyText.{policy_text}
use Rattle.fl_ops.specs.declared.op.Policy.{Policy}
use Rattle.fl_ops.specs.declared.op.Policy.TheVariants.{Export}
use Rattle.fl_rules.specs.declared.endpoint.Mode.{Mode}
use Rattle.fl_rules.specs.declared.endpoint.Mode.TheVariants.{Both}
use Rattle.fl_jobs.specs.declared.job.Side.{Side}
use Rattle.fl_jobs.specs.declared.job.Side.TheVariants.{Secrecy}
use Rattle.fl_jobs.specs.declared.job.TooLong.{TooLong}
use Rattle.fl_jobs.specs.declared.job.Act.TheVariants.{Order as Orders}
use Rattle.fl_jobs.specs.declared.job.Job.{Job}
use Rattle.fl_jobs.specs.declared.job.Job.TheVariants.{By}
use Rattle.fl_aliases.specs.Alias.{is_letter, AllLetters}
use Rattle.fl_aliases.specs.Expansion.{Expands, ends, stays, becomes}
use Rattle.fl_aliases.specs.Table.{Table}
use Rattle.fl_aliases.specs.TargetText.{target_text}
use Rattle.fl_aliases.specs.Words.{Word, full_pieces, words_of}
use Rattle.fl_aliases.specs.declared.target.Target.{Target}
use Rattle.fl_aliases.specs.declared.target.Target.TheVariants.{Process, Operation, Endpoint as OfEndpoint}
use Rattle.fl_script.specs.Grammar.{Is, Matches, job_forms, request_forms, forms}
use Rattle.fl_script.specs.Reading.{WordsSay, SpellsReplaced}
use Rattle.fl_script.specs.Words.{side_text, mode_text, IsLabelWord, IsCapsWord, HasDigits, IsBytesWord}
use Rattle.fl_script.specs.declared.line.Line.{Line}
use Rattle.fl_script.specs.declared.line.Line.TheVariants.{Node as OfNode}
use Rattle.fl_script.specs.declared.request.Request.{Request}
use Rattle.fl_script.specs.declared.request.Request.TheVariants.{Job as OfJob, Begin, Restart}
use Rattle.fl_script.specs.laws.JobKinds.{Kind, kind_of}
use Rattle.fl_script.specs.laws.JobKinds.Kind.{arrive}

-- whether the bytes are ASCII
abbrev ascii : List ℕ → Bool
ascii bytes = list_all is_ascii bytes

-- what the test tells
tells : (bytes : List ℕ) → Decides (ascii bytes) (IsAscii bytes)
tells bytes =
    let each = Decides-by_and is_ascii (λ b. b < 128) ascii (λ b. Decides-ltb b 128) refl (λ _ _. refl) bytes in
    ((λ e. IsAscii-from_all bytes (each.0 e)), (λ h. each.1 (All-from_ascii bytes h)))

-- and what it tells of words
tells_all : (words : List Word) → Decides (list_all ascii words) (All IsAscii words)
tells_all = Decides-by_and ascii IsAscii (list_all ascii) tells refl (λ _ _. refl)

-- bytes that pass a test which only ASCII bytes pass
passing : (test : ℕ → Bool) → ((b : ℕ) → test b ≡ true → b < 128) → (bytes : List ℕ) → AllPass test bytes
    → ascii bytes ≡ true
passing test low bytes h =
    (tells bytes).1 (IsAscii-from_all bytes (All-weaker (λ b. test b ≡ true) (λ b. b < 128) low bytes h))

-- letters of an alias are ASCII
letters : (bytes : List ℕ) → AllLetters bytes → ascii bytes ≡ true
letters = passing is_letter (λ b h. grind (arith, nat_tests))

-- so are the digits of a number
number : (n : ℕ) → n < 2 ^ 64 → ascii (decimal n) ≡ true
number n small = (tells (decimal n)).1 (IsAscii-decimal n small)

-- the text of a name
name : (n : Name) → ascii (name_text n) ≡ true
name n =
    rw (list_all-append, number n.node (omega (arith, n.node_in_range)))
    (number n.seq (omega (arith, n.seq_in_range)))

-- of a capability
cap : (c : Cap) → ascii (cap_text c) ≡ true
cap (Plus n) = name n
cap c = name (cap_name c)

-- of a process
pid : (p : Pid) → ascii (pid_text p) ≡ true
pid p =
    let node = number p.node (omega (arith, p.node_in_range)) in
    let boot = number p.boot (omega (arith, p.boot_in_range)) in
    simp (list_all-append, node, boot) (number p.serial (omega (arith, p.serial_in_range)))

-- of an endpoint
endpoint : (e : Endpoint) → ascii (endpoint_text e) ≡ true
endpoint e = number e.number (omega (arith, e.number_in_range))

-- of what an alias stands for
target : (t : Target) → ascii (target_text t) ≡ true
target (Process p) = pid p
target (Operation n) = name n
target (OfEndpoint e) = endpoint e

-- of a policy
policy : (p : Policy) → ascii (policy_text p) ≡ true
policy Export = refl
policy p = refl

-- of a side
side : (s : Side) → ascii (side_text s) ≡ true
side Secrecy = refl
side s = refl

-- of a mode
mode : (m : Mode) → ascii (mode_text m) ≡ true
mode Both = refl
mode m = refl

-- parts that an ASCII byte joins are ASCII together where each is
joined : (c : ℕ) → is_ascii c ≡ true → (parts : List Word)
    → ascii (join_with_byte c parts) ≡ list_all ascii parts
joined c low [] = refl
joined c low (x ∷ []) = sym (and-true (ascii x))
joined c low (x ∷ y ∷ parts) =
    list_all-append is_ascii x _ ∙ (λ i. ascii x && (low i && joined c low (y ∷ parts) i))

-- a list in braces is ASCII where each item's text is
listing : {K : Type 0} (text : K → List ℕ) → ((x : K) → ascii (text x) ≡ true) → (items : List K)
    → ascii (braces text items) ≡ true
listing text each items =
    let parts = map text items in
    let all = list_all-from_AllPass (λ x. ascii (text x)) items (λ k d _. each _) in
    list_all-append is_ascii (join_with_byte 44 parts) (125 ∷ [])
    ∙ rw (joined 44 refl parts, list_all-map ascii text items, all)

-- a word of this form is ASCII
abbrev Fits : (Word → Type 0) → Type 0
Fits p = (word : Word) → p word → ascii word ≡ true

-- and so is a word of each of these
abbrev AllFit : List (Word → Type 0) → Type 0
AllFit [] = Unit {0}
AllFit (p ∷ ps) = Fits p × AllFit ps

-- a given text
same : (text : List ℕ) → ascii text ≡ true → Fits (Is text)
same text low word e = ap ascii e ∙ low

-- a number
numeral : (n : ℕ) → Fits (IsNumber n)
numeral n word s = ap ascii s.written ∙ number n (omega (arith, s.in_range))

-- a label, or too long a one
label : (l : Result (SetBy name_cmp) TooLong) → Fits (IsLabelWord l)
label (Ok l) word s = ap ascii s.listed.spelled ∙ listing name_text name s.listed.items
label (Err e) word s = ap ascii s.listed.spelled ∙ listing name_text name s.listed.items

-- capabilities
caps : (set : SetBy cap_cmp) → Fits (IsCapsWord set)
caps set word s = ap ascii s.spelled ∙ listing cap_text cap s.items

-- hexadecimal digits
digits : (bytes : List ℕ) → Fits (HasDigits bytes)
digits bytes word s = passing is_hex_digit (λ b h. grind arith) word (decode_of-ok word bytes s).1

-- the bytes of a message
payload : (bytes : List ℕ) → Fits (IsBytesWord bytes)
payload [] = same (codes "none") refl
payload (b ∷ bytes) = digits (b ∷ bytes)

-- what is known of each form
ruleset each_form = (same, numeral, name, cap, pid, endpoint, policy, side, mode, label, caps, digits, payload)

-- the words of each job
of_job : {job : Job} → Kind job → AllFit (job_forms job)
of_job (arrive packet) = ((λ word never. absurd never), tt)
of_job kind = search each_form

-- the words of what is asked of a node
of_request : (request : Request) → AllFit (request_forms request)
of_request (OfJob job) = of_job (kind_of job)
of_request (Begin p order) = (same (codes "begin") refl, of_job (kind_of (By p (Orders order))))
of_request (Restart true) = search each_form
of_request request = search each_form

-- the words of each line
of_line : (line : Line) → AllFit (forms line)
of_line (OfNode n request) = (numeral n, of_request request)
of_line line = search each_form

-- words that match such forms are ASCII
matched : (ps : List (Word → Type 0)) (words : List Word) → AllFit ps → Matches ps words
    → list_all ascii words ≡ true
matched [] [] fit s = refl
matched [] (word ∷ words) fit s = absurd s
matched (p ∷ ps) [] fit s = absurd s
matched (p ∷ ps) (word ∷ words) fit s = and_from _ _ (fit.0 word s.0) (matched ps words fit.1 s.1)

module _ (table : Table) where
  -- a word is ASCII where what it becomes is
  expanded : {word out : Word} → Expands table word out → ascii word ≡ ascii out
  expanded ends = refl
  expanded (stays {b} plain after) = ap (λ r. is_ascii b && r) (expanded after)
  expanded (becomes {letters = alias} {target = t} is_alias longest found after) =
      simp (list_all-append, letters alias is_alias.letters, target t) (expanded after)

  -- and so are words
  replaced : (words outs : List Word) → AllZip (Expands table) words outs
      → list_all ascii words ≡ list_all ascii outs
  replaced [] [] each = refl
  replaced [] (out ∷ outs) each = absurd each
  replaced (word ∷ words) [] each = absurd each
  replaced (word ∷ words) (out ∷ outs) each = λ i. expanded each.0 i && replaced words outs each.1 i

  -- words that spell a line once they are replaced are ASCII
  spelled : (line : Line) (words : List Word) → SpellsReplaced table line words → list_all ascii words ≡ true
  spelled line words s =
      replaced words s.replaced s.each ∙ matched (forms line) s.replaced (of_line line) s.spelled

  -- so are those that also name what it makes
  said : (line : Line) (alias : Option (List ℕ)) (words : List Word) → WordsSay table line alias words
      → list_all ascii words ≡ true
  said line None words s = spelled line words s
  said line (Some alias) words s =
      rw (s.split, list_all-append, spelled line s.front s.spelled, letters alias s.is_alias.letters)

-- words that say something are ASCII
pub says_ascii : (table : Table) (line : Line) (alias : Option (List ℕ)) (words : List Word)
    → WordsSay table line alias words → All IsAscii words
says_ascii table line alias words s = (tells_all words).0 (said table line alias words s)

-- the pieces that are no words have no bytes
full : (pieces : List Word) → list_all ascii (full_pieces pieces) ≡ list_all ascii pieces
full [] = refl
full ([] ∷ pieces) = full pieces
full ((b ∷ piece) ∷ pieces) =
    rw (ne_eqb (length (b ∷ piece)) 0 (λ e. absurd (omega (arith, e))))
    (ap (λ r. ascii (b ∷ piece) && r) (full pieces))

-- a line is ASCII where its words are
pub line_ascii : (line : List ℕ) → All IsAscii (words_of line) → IsAscii line
line_ascii line each =
    let pieces = slice_split (λ b. b == 32) line in
    let whole = sym (ap ascii (join_with_byte-slice_split 32 line)) ∙ joined 32 refl pieces in
    (tells line).0 (whole ∙ sym (full pieces) ∙ (tells_all (words_of line)).1 each)

-- a line that is not ASCII says nothing
pub no_ascii_says_none : (table : Table) (bytes : List ℕ) → ¬ IsAscii bytes
    → (line : Line) (alias : Option (List ℕ)) → WordsSay table line alias (words_of bytes) → ⊥
no_ascii_says_none table bytes none line alias s =
    none (line_ascii bytes (says_ascii table line alias (words_of bytes) s))
