-- What an alias stands for is written within a word.
use Rattle.std.proofs.Common.{◌≡◌, ◌≢◌, ℕ, ◌<◌, ◌^◌, List, [], ◌∷◌, ◌++◌, length, arith, length-append, refl, ap}
use Rattle.std.specs.Fmt.{decimal}
use Rattle.std.specs.Str.Parse.{AllDigits}
use Rattle.std.proofs.lemmas.List.Elements.{All-nil, All-cons, All-append}
use Rattle.std.proofs.lemmas.Str.Parse.{digit_from_value}
use Rattle.std.proofs.lemmas.Fmt.{digits_decimal, decimal_nonempty}
use Rattle.fl_labels.specs.ItemText.{own}
use Rattle.fl_labels.specs.Text.{name_text, pid_text, endpoint_text}
use Rattle.fl_labels.specs.declared.endpoint.Endpoint.{Endpoint}
use Rattle.fl_labels.specs.declared.name.Name.{Name}
use Rattle.fl_labels.specs.declared.pid.Pid.{Pid}
use Rattle.fl_aliases.specs.Words.{InWord}
use Rattle.fl_aliases.specs.TargetText.{target_text}
use Rattle.fl_aliases.specs.declared.target.Target.{Target}
use Rattle.fl_aliases.specs.declared.target.Target.TheVariants.{Process, Operation, Endpoint as OfEndpoint}

abbrev Plain : ℕ → Type 0
Plain b = (b ≢ 32) × (b ≢ 36)

digits : (ds : List ℕ) → AllDigits 10 ds → InWord ds
digits [] a = All-nil Plain
digits (c ∷ cs) a =
    let range = digit_from_value c a.0 in
    All-cons Plain c cs ((λ e. absurd (omega (arith, range.0))), (λ e. absurd (omega (arith, range.0)))) (digits cs a.1)

number : (n : ℕ) → n < 2 ^ 32 → InWord (decimal n)
number n high = digits _ (digits_decimal own n (omega (arith, high)))

-- a number with a dot and more behind it
dotted : (n : ℕ) (rest : List ℕ) → n < 2 ^ 32 → InWord rest → InWord (decimal n ++ 46 ∷ rest)
dotted n rest high more = All-append Plain (decimal n) (46 ∷ rest) (number n high) (All-cons Plain 46 rest ((λ e. absurd (omega (arith, e))), (λ e. absurd (omega (arith, e)))) more)

name_in_word : (n : Name) → InWord (name_text n)
name_in_word n = dotted n.node (decimal n.seq) (omega (arith, n.node_in_range)) (number n.seq n.seq_in_range.1)

pid_in_word : (p : Pid) → InWord (pid_text p)
pid_in_word p =
    All-cons Plain 112 _ ((λ e. absurd (omega (arith, e))), (λ e. absurd (omega (arith, e))))
    (dotted p.node _ (omega (arith, p.node_in_range)) (dotted p.boot (decimal p.serial) p.boot_in_range.1 (number p.serial p.serial_in_range.1)))

endpoint_in_word : (e : Endpoint) → InWord (endpoint_text e)
endpoint_in_word e = All-cons Plain 101 _ ((λ h. absurd (omega (arith, h))), (λ h. absurd (omega (arith, h)))) (number e.number (omega (arith, e.number_in_range)))

pub target_in_word : (t : Target) → InWord (target_text t)
target_in_word (Process pid) = pid_in_word pid
target_in_word (Operation name) = name_in_word name
target_in_word (OfEndpoint endpoint) = endpoint_in_word endpoint

pub target_some : (t : Target) → 0 < length (target_text t)
target_some (Process pid) = omega arith
target_some (Operation name) = omega (arith, length-append (decimal name.node) (46 ∷ decimal name.seq))
target_some (OfEndpoint endpoint) = omega arith

-- the first byte is no `#`
pub record Begins (text : List ℕ) : Type 0 where
  pub first : ℕ
  pub more : List ℕ
  pub is : text ≡ first ∷ more
  pub no_comment : first ≢ 35

digits_begin : (ds : List ℕ) → AllDigits 10 ds → 0 < length ds → Begins ds
digits_begin [] a some = absurd (omega (arith, some))
digits_begin (c ∷ cs) a some = let range = digit_from_value c a.0 in record { first = c; more = cs; is = refl; no_comment = λ e. absurd (omega (arith, range.0, e)) }

begins_before : (ds rest : List ℕ) → Begins ds → Begins (ds ++ rest)
begins_before ds rest b = record { first = b.first; more = b.more ++ rest; is = ap (λ l. l ++ rest) b.is; no_comment = b.no_comment }

pid_begins : (p : Pid) → Begins (pid_text p)
pid_begins p = record { first = 112; more = decimal p.node ++ 46 ∷ (decimal p.boot ++ 46 ∷ decimal p.serial); is = refl; no_comment = λ e. absurd (omega (arith, e)) }

name_begins : (n : Name) → Begins (name_text n)
name_begins n =
    let high : n.node < 2 ^ 64 = omega (arith, n.node_in_range) in
    begins_before (decimal n.node) (46 ∷ decimal n.seq) (digits_begin (decimal n.node) (digits_decimal own n.node high) (decimal_nonempty n.node high))

endpoint_begins : (e : Endpoint) → Begins (endpoint_text e)
endpoint_begins e = record { first = 101; more = decimal e.number; is = refl; no_comment = λ h. absurd (omega (arith, h)) }

pub target_begins : (t : Target) → Begins (target_text t)
target_begins (Process pid) = pid_begins pid
target_begins (Operation name) = name_begins name
target_begins (OfEndpoint endpoint) = endpoint_begins endpoint
