-- Words stand for one value.
use Rattle.std.proofs.Common.{◌≡◌, ◌≤◌, ◌<◌, ◌^◌, ◌∙◌, ap, refl, subst, sym, ℕ, List, [], ◌∷◌, length, codes, arith, rules}
use Rattle.std.proofs.Math.Nat.{ℕ_set}
use mathlib.Core.HLevel.{Σ_prop_path}
use Rattle.std.specs.Coded.{×_prop, le_prop}
use Rattle.std.proofs.lemmas.Fmt.{decimal_injective, digits_decimal}
use Rattle.std.proofs.lemmas.Str.Parse.{digit_from_value}
use Rattle.std.specs.Str.Parse.{AllDigits}
use Rattle.hex.proofs.HexLemmas.{decode_of-same}
use Rattle.hex.proofs.OnLiterals.{hex_on_literals}
use Rattle.fl_labels.specs.ItemText.{own, no_comma-name_text, no_comma-cap_text}
use Rattle.std.specs.declared.result.Result.{Result}
use Rattle.std.specs.declared.result.Result.TheVariants.{Ok, Err}
use Rattle.fl_labels.specs.Cap.{cap_cmp}
use Rattle.fl_labels.specs.Name.{name_cmp}
use Rattle.fl_labels.specs.SetBy.{SetBy, len}
use Rattle.fl_labels.specs.Text.{name_text, pid_text, cap_text, endpoint_text}
use Rattle.fl_labels.specs.declared.endpoint.Endpoint.{Endpoint}
use Rattle.fl_labels.specs.declared.name.Name.{Name}
use Rattle.fl_labels.specs.declared.pid.Pid.{Pid}
use Rattle.fl_labels.specs.declared.cap.Cap.{Cap}
use Rattle.fl_ops.specs.declared.op.Policy.{Policy}
use Rattle.fl_ops.specs.declared.op.Policy.TheVariants.{Export, Read, Integrity}
use Rattle.fl_jobs.specs.declared.job.GivenLabels.{GivenLabels}
use Rattle.fl_jobs.specs.declared.job.Side.{Side}
use Rattle.fl_jobs.specs.declared.job.Side.TheVariants.{Secrecy, Integrity as IntegritySide}
use Rattle.fl_jobs.specs.declared.job.TooLong.{TooLong}
use Rattle.fl_jobs.specs.declared.secret.Secret.{Secret}
use Rattle.fl_rules.specs.declared.endpoint.Mode.{Mode}
use Rattle.fl_rules.specs.declared.endpoint.Mode.TheVariants.{Read as ReadMode, Write, Both as BothWays}
use Rattle.fl_message.specs.declared.message.Message.{Message}
use Rattle.fl_aliases.specs.Words.{Word}
use Rattle.fl_labels.specs.laws.OneReading.{name_text_injective, pid_text_injective, cap_text_injective, endpoint_text_injective, name_text_some, cap_text_some, same_number, same_listing}
use Rattle.fl_script.specs.Grammar.{Is}
use Rattle.fl_script.specs.laws.Agreement.{Both}
use Rattle.fl_labels.specs.Words.{IsNumber, IsListing}
use Rattle.fl_ops.specs.PolicyText.{policy_text}
use Rattle.fl_script.specs.Words.{side_text, mode_text, ListsLabel, ListsTooMany, IsLabelWord, IsCapsWord, HasDigits, IsSecretWord, IsBytesWord}

same_text : {A : Type 0} (text : A → Word) → ((x y : A) → text x ≡ text y → x ≡ y) → (a b : A) → Both (Is (text a)) (Is (text b)) → a ≡ b
same_text text injective a b g = injective a b (sym g.left ∙ g.right)

pub same_name : (a b : Name) → Both (Is (name_text a)) (Is (name_text b)) → a ≡ b
same_name = same_text name_text name_text_injective

pub same_pid : (p q : Pid) → Both (Is (pid_text p)) (Is (pid_text q)) → p ≡ q
same_pid = same_text pid_text pid_text_injective

pub same_cap : (c d : Cap) → Both (Is (cap_text c)) (Is (cap_text d)) → c ≡ d
same_cap = same_text cap_text cap_text_injective

pub same_endpoint : (d e : Endpoint) → Both (Is (endpoint_text d)) (Is (endpoint_text e)) → d ≡ e
same_endpoint = same_text endpoint_text endpoint_text_injective

pub same_packet : (m n : ℕ) → Both (IsNumber m) (IsNumber n) → m ≡ n
same_packet m n g = same_number m n g.left.in_range g.right.in_range (sym g.left.written ∙ g.right.written)

pub same_node : (m n : ℕ) → Both (IsNumber m) (IsNumber n) → m ≡ n
same_node m n g =
    let a : m < 2 ^ 32 = g.left.in_range in
    let b : n < 2 ^ 32 = g.right.in_range in
    decimal_injective m n (omega arith) (omega arith) (sym g.left.written ∙ g.right.written)

-- no node has a word that begins with a letter
pub no_letter : (n b : ℕ) (rest w : Word) → 57 < b → IsNumber n w → w ≡ b ∷ rest → ⊥
no_letter n b rest w letter s e =
    let small : n < 2 ^ 32 = s.in_range in
    let digits : AllDigits 10 (b ∷ rest) = subst (AllDigits 10) (sym s.written ∙ e) (digits_decimal own n (omega arith)) in
    let first = digit_from_value b digits.0 in
    absurd (omega (arith, letter, first.0))

-- no node has the word `union`
pub no_node : (n : ℕ) (w : Word) → IsNumber n w → w ≡ codes "union" → ⊥
no_node n w s e = no_letter n 117 _ w (omega arith) s e

pub same_policy : (a b : Policy) → Both (Is (policy_text a)) (Is (policy_text b)) → a ≡ b
same_policy Export Export g = refl
same_policy Read Read g = refl
same_policy Integrity Integrity g = refl
same_policy a b g = absurd (search (rules, g.left, g.right))

pub same_side : (a b : Side) → Both (Is (side_text a)) (Is (side_text b)) → a ≡ b
same_side Secrecy Secrecy g = refl
same_side IntegritySide IntegritySide g = refl
same_side a b g = absurd (search (rules, g.left, g.right))

pub same_mode : (a b : Mode) → Both (Is (mode_text a)) (Is (mode_text b)) → a ≡ b
same_mode ReadMode ReadMode g = refl
same_mode Write Write g = refl
same_mode BothWays BothWays g = refl
same_mode a b g = absurd (search (rules, g.left, g.right))

-- a word lists one set of tags
same_tags : (l m : SetBy name_cmp) (w : Word) → IsListing name_text l w → IsListing name_text m w → l ≡ m
same_tags = same_listing name_text no_comma-name_text name_text_some name_text_injective

-- a word lists no label and too long a one
no_long : (l : SetBy name_cmp) (w : Word) → ListsLabel l w → ListsTooMany w → ⊥
no_long l w s t =
    let same = same_tags l t.tags w s.listed t.listed in
    let short = rw same at s.short in
    let long = t.long in absurd (omega arith)

pub same_label : (a b : Result (SetBy name_cmp) TooLong) → Both (IsLabelWord a) (IsLabelWord b) → a ≡ b
same_label (Ok l) (Ok m) g = ap Ok (same_tags l m g.word g.left.listed g.right.listed)
same_label (Err e) (Err f) g = refl
same_label (Ok l) (Err f) g = absurd (no_long l g.word g.left g.right)
same_label (Err e) (Ok m) g = absurd (no_long m g.word g.right g.left)

pub same_caps : (a b : SetBy cap_cmp) → Both (IsCapsWord a) (IsCapsWord b) → a ≡ b
same_caps a b g = same_listing cap_text no_comma-cap_text cap_text_some cap_text_injective a b g.word g.left g.right

-- secrets of equal bytes are equal
of_bytes : (a b : Secret) → a.bytes ≡ b.bytes → a ≡ b
of_bytes a b e =
    let parts : ◌≡◌ {A = (bytes : List ℕ) × (length bytes ≡ 32)} (a.bytes, a.sized) (b.bytes, b.sized) = Σ_prop_path (λ bytes. ℕ_set _ _) e in
    λ i. record { bytes = (parts i).0; sized = (parts i).1 }

pub same_secret : (a b : Secret) → Both (IsSecretWord a) (IsSecretWord b) → a ≡ b
same_secret a b g = of_bytes a b (decode_of-same g.word a.bytes b.bytes g.left g.right)

-- `none` is the digits of no bytes
none_of_digits : (bytes : List ℕ) → HasDigits bytes (codes "none") → ⊥
unfolding hex_on_literals
none_of_digits bytes is = absurd (cc is)

pub same_bytes : (a b : List ℕ) → Both (IsBytesWord a) (IsBytesWord b) → a ≡ b
same_bytes [] [] g = refl
same_bytes (x ∷ xs) (y ∷ ys) g = decode_of-same g.word (x ∷ xs) (y ∷ ys) g.left g.right
same_bytes [] (y ∷ ys) g = absurd (none_of_digits (y ∷ ys) (subst (HasDigits (y ∷ ys)) g.left g.right))
same_bytes (x ∷ xs) [] g = absurd (none_of_digits (x ∷ xs) (subst (HasDigits (x ∷ xs)) g.right g.left))

-- messages of equal capabilities and bytes are equal
pub of_parts : (a b : Message) → a.caps ≡ b.caps → a.payload ≡ b.payload → a ≡ b
of_parts a b e f =
    let parts : ◌≡◌ {A = (m : SetBy cap_cmp × List ℕ) × (len m.0 ≤ 64 × length m.1 ≤ 1024)} ((a.caps, a.payload), (a.few_caps, a.few_bytes)) ((b.caps, b.payload), (b.few_caps, b.few_bytes)) = Σ_prop_path (λ m. ×_prop le_prop le_prop) (λ i. (e i, f i)) in
    λ i. record { caps = (parts i).0.0; payload = (parts i).0.1; few_caps = (parts i).1.0; few_bytes = (parts i).1.1 }

pub same_message : (a b : Message) → Both (IsCapsWord a.caps) (IsCapsWord b.caps) → Both (IsBytesWord a.payload) (IsBytesWord b.payload) → a ≡ b
same_message a b g h = of_parts a b (same_caps a.caps b.caps g) (same_bytes a.payload b.payload h)

pub same_given : (a b : GivenLabels) → Both (IsLabelWord a.secrecy) (IsLabelWord b.secrecy) → Both (IsLabelWord a.integrity) (IsLabelWord b.integrity) → a ≡ b
same_given a b g h =
    let e = same_label a.secrecy b.secrecy g in
    let f = same_label a.integrity b.integrity h in
    λ i. record { secrecy = e i; integrity = f i }
