-- No two values have one text.
use Rattle.std.proofs.Common.{◌≡◌, ℕ, ◌<◌, ◌^◌, Bool, false, cond, eqb, List, [], ◌∷◌, ◌++◌, length, drop, get_or, map, length-append, sym, ap, refl, ◌∙◌, arith, Ordering}
use Rattle.std.specs.Cmp.{IsTotalOrder, tied_itself}
use Rattle.std.specs.FinMap.{IsAntisymmetric}
use Rattle.std.specs.List.{join_with_byte, slice_split, All}
use Rattle.std.specs.Fmt.{decimal}
use Rattle.std.specs.Str.Parse.{AllDigits}
use Rattle.std.proofs.lemmas.Bool.{ne_eqb}
use Rattle.std.proofs.lemmas.List.Elements.{All-nil, All-cons}
use Rattle.std.proofs.lemmas.List.Splits.{slice_split_none, slice_split_at}
use Rattle.std.proofs.lemmas.Str.Parse.{digit_from_value}
use Rattle.std.proofs.lemmas.Fmt.{digits_decimal, decimal_injective}
use Rattle.fl_labels.specs.declared.name.Name.{Name}
use Rattle.fl_labels.specs.declared.cap.Cap.{Cap}
use Rattle.fl_labels.specs.declared.cap.Cap.TheVariants.{Plus, Minus, Use, Grow}
use Rattle.fl_labels.specs.declared.pid.Pid.{Pid}
use Rattle.fl_labels.specs.NameOrder.{same_name}
use Rattle.fl_labels.specs.PidOrder.{same_pid}
use Rattle.fl_labels.specs.declared.endpoint.Endpoint.{Endpoint}
use Rattle.fl_labels.specs.Endpoint.{same_endpoint}
use Rattle.fl_labels.specs.SetBy.{SetBy, of_list, members, of_list-members}
use Rattle.fl_labels.specs.Cap.{cap_name, cap_rank}
use Rattle.fl_labels.specs.CapOrder.{cap_total, cap_exact}
use Rattle.fl_labels.specs.Name.{name_cmp}
use Rattle.std.specs.Ordering.{nat_cmp, ordering_then}
use Rattle.fl_labels.specs.Text.{name_text, cap_sign, cap_text, pid_text, endpoint_text, braces}
use Rattle.fl_labels.specs.Words.{is_comma, NoComma, IsListing}
use Rattle.fl_labels.specs.ItemText.{own}

is_dot : ℕ → Bool
is_dot b = eqb b 46

no_dot_digits : (ds : List ℕ) → AllDigits 10 ds → All (λ b. is_dot b ≡ false) ds
unfolding is_dot
no_dot_digits [] a = All-nil (λ b. is_dot b ≡ false)
no_dot_digits (c ∷ cs) a =
    let range = digit_from_value c a.0 in
    All-cons (λ b. is_dot b ≡ false) c cs (ne_eqb c 46 (λ e. absurd (omega (arith, range.0))))
    (no_dot_digits cs a.1)

-- a number is cut from what stands behind the dot after it
first_part : (n : ℕ) (rest : List ℕ) → n < 2 ^ 32
    → slice_split is_dot (decimal n ++ 46 ∷ rest) ≡ decimal n ∷ slice_split is_dot rest
unfolding is_dot
first_part n rest high =
    slice_split_at is_dot (decimal n) 46 rest
    (no_dot_digits _ (digits_decimal own n (omega (arith, high)))) refl

last_part : (n : ℕ) → n < 2 ^ 32 → slice_split is_dot (decimal n) ≡ decimal n ∷ []
unfolding is_dot
last_part n high = slice_split_none is_dot (decimal n)
    (no_dot_digits _ (digits_decimal own n (omega (arith, high))))

parts_of : (n : Name) → slice_split is_dot (name_text n) ≡ decimal n.node ∷ decimal n.seq ∷ []
parts_of n = first_part n.node (decimal n.seq) (omega (arith, n.node_in_range))
    ∙ ap (λ ps. decimal n.node ∷ ps) (last_part n.seq n.seq_in_range.1)

parts_of_pid : (p : Pid)
    → slice_split is_dot (drop 1 (pid_text p)) ≡ decimal p.node ∷ decimal p.boot ∷ decimal p.serial
    ∷ []
parts_of_pid p =
    first_part p.node (decimal p.boot ++ 46 ∷ decimal p.serial) (omega (arith, p.node_in_range))
    ∙ ap (λ ps. decimal p.node ∷ ps) (first_part p.boot (decimal p.serial) p.boot_in_range.1)
    ∙ ap (λ ps. decimal p.node ∷ decimal p.boot ∷ ps) (last_part p.serial p.serial_in_range.1)

-- no two numbers have one text
pub same_number : (m n : ℕ) → m < 2 ^ 32 → n < 2 ^ 32 → decimal m ≡ decimal n → m ≡ n
same_number m n low high e = decimal_injective m n (omega (arith, low)) (omega (arith, high)) e

-- no two names have one text
pub name_text_injective : (n m : Name) → name_text n ≡ name_text m → n ≡ m
name_text_injective n m e =
    let parts : decimal n.node ∷ decimal n.seq ∷ [] ≡ decimal m.node ∷ decimal m.seq ∷ [] =
    sym (parts_of n) ∙ ap (slice_split is_dot) e ∙ parts_of m in
    let nodes : decimal n.node ≡ decimal m.node = cc in
    let seqs : decimal n.seq ≡ decimal m.seq = cc in
    same_name n m
    (same_number n.node m.node (omega (arith, n.node_in_range))
    (omega (arith, m.node_in_range)) nodes)
    (same_number n.seq m.seq n.seq_in_range.1 m.seq_in_range.1 seqs)

-- no two process identifiers have one text
pub pid_text_injective : (p q : Pid) → pid_text p ≡ pid_text q → p ≡ q
pid_text_injective p q e =
    let parts : decimal p.node ∷ decimal p.boot ∷ decimal p.serial ∷ [] ≡ decimal q.node ∷ decimal
    q.boot ∷ decimal q.serial ∷ [] = sym (parts_of_pid p)
    ∙ ap (λ t. slice_split is_dot (drop 1 t)) e ∙ parts_of_pid q in
    let nodes : decimal p.node ≡ decimal q.node = cc in
    let boots : decimal p.boot ≡ decimal q.boot = cc in
    let serials : decimal p.serial ≡ decimal q.serial = cc in
    same_pid p q
    (same_number p.node q.node (omega (arith, p.node_in_range))
    (omega (arith, q.node_in_range)) nodes)
    (same_number p.boot q.boot p.boot_in_range.1 q.boot_in_range.1 boots)
    (same_number p.serial q.serial p.serial_in_range.1 q.serial_in_range.1 serials)

-- no two endpoints have one text
pub endpoint_text_injective : (d e : Endpoint) → endpoint_text d ≡ endpoint_text e → d ≡ e
endpoint_text_injective d e same =
    same_endpoint d e (same_number d.number e.number (omega (arith, d.number_in_range))
    (omega (arith, e.number_in_range)) (ap (drop 1) same))

rank_of : ℕ → ℕ
rank_of sign = cond (eqb sign 43) 1 (cond (eqb sign 45) 2 (cond (eqb sign 42) 3 4))

rank-sign : (c : Cap) → rank_of (cap_sign c) ≡ cap_rank c
unfolding rank_of
rank-sign (Plus n) = refl
rank-sign (Minus n) = refl
rank-sign (Use n) = refl
rank-sign (Grow n) = refl

by_sign : (c d : Cap) → cap_sign c ≡ cap_sign d → cap_name c ≡ cap_name d → c ≡ d
by_sign c d s e =
    let ranks : cap_rank c ≡ cap_rank d = sym (rank-sign c) ∙ ap rank_of s ∙ rank-sign d in
    cap_exact c d (ap (λ n. ordering_then (name_cmp n (cap_name d))
    (nat_cmp (cap_rank c) (cap_rank d))) e
    ∙ ap (λ r. ordering_then (name_cmp (cap_name d) (cap_name d)) (nat_cmp r (cap_rank d)))
    ranks ∙ tied_itself cap_total d)

-- no two capabilities have one text
pub cap_text_injective : (c d : Cap) → cap_text c ≡ cap_text d → c ≡ d
cap_text_injective c d e =
    by_sign c d (ap (λ t. get_or t 0 0) e) (name_text_injective _ _ (ap (drop 1) e))

pub name_text_some : (n : Name) → 0 < length (name_text n)
name_text_some n = omega (arith, length-append (decimal n.node) (46 ∷ decimal n.seq))

pub cap_text_some : (c : Cap) → 0 < length (cap_text c)
cap_text_some c = omega arith

-- what is joined by commas is cut into the same parts
pub cut_joined : {K : Type 0} (text : K → List ℕ) → ((x : K) → NoComma (text x))
    → (x : K) (xs : List K)
    → slice_split is_comma (join_with_byte 44 (map text (x ∷ xs))) ≡ map text (x ∷ xs)
cut_joined text plain x [] = slice_split_none is_comma (text x) (plain x)
cut_joined text plain x (y ∷ ys) =
    slice_split_at is_comma (text x) 44 (join_with_byte 44 (map text (y ∷ ys))) (plain x) refl
    ∙ ap (λ ps. text x ∷ ps) (cut_joined text plain y ys)

init : List ℕ → List ℕ
init [] = []
init (x ∷ []) = []
init (x ∷ y ∷ xs) = x ∷ init (y ∷ xs)

init-push : (xs : List ℕ) (z : ℕ) → init (xs ++ z ∷ []) ≡ xs
unfolding init
init-push [] z = refl
init-push (x ∷ []) z = refl
init-push (x ∷ y ∷ xs) z = ap (λ l. x ∷ l) (init-push (y ∷ xs) z)

module _ {K : Type 0} (text : K → List ℕ) (plain : (x : K) → NoComma (text x))
    (some : (x : K) → 0 < length (text x)) (injective : (x y : K) → text x ≡ text y → x ≡ y) where
  texts_injective : (xs ys : List K) → map text xs ≡ map text ys → xs ≡ ys
  texts_injective [] [] e = refl
  texts_injective [] (y ∷ ys) e = absurd (cc)
  texts_injective (x ∷ xs) [] e = absurd (cc)
  texts_injective (x ∷ xs) (y ∷ ys) e =
      let first : text x ≡ text y = cc in
      let rest : map text xs ≡ map text ys = cc in
      ap (λ z. z ∷ xs) (injective x y first) ∙ ap (λ zs. y ∷ zs) (texts_injective xs ys rest)

  never_empty : (x : K) (xs : List K) → [] ≡ join_with_byte 44 (map text (x ∷ xs)) → ⊥
  never_empty x xs e =
      let parts : [] ∷ [] ≡ map text (x ∷ xs) = ap (slice_split is_comma) e
      ∙ cut_joined text plain x xs in
      let first : [] ≡ text x = cc in
      absurd (omega (arith, some x, ap length first))

  same_list : (xs ys : List K) → join_with_byte 44 (map text xs) ≡ join_with_byte 44 (map text ys)
      → xs ≡ ys
  same_list [] [] e = refl
  same_list [] (y ∷ ys) e = absurd (never_empty y ys e)
  same_list (x ∷ xs) [] e = absurd (never_empty x xs (sym e))
  same_list (x ∷ xs) (y ∷ ys) e =
      texts_injective _ _ (sym (cut_joined text plain x xs) ∙ ap (slice_split is_comma) e
      ∙ cut_joined text plain y ys)

  -- no two lists have one text
  pub braces_injective : (xs ys : List K) → braces text xs ≡ braces text ys → xs ≡ ys
  braces_injective xs ys e =
      same_list xs ys (sym (init-push _ 125) ∙ ap (λ l. init (drop 1 l)) e ∙ init-push _ 125)

  -- and a text lists one set at most
  pub same_listing : {R : K → K → Ordering} (s t : SetBy R) (bytes : List ℕ)
      → IsListing text s bytes → IsListing text t bytes → s ≡ t
  same_listing s t bytes p q = p.same
      ∙ ap of_list (braces_injective p.items q.items (sym p.spelled ∙ q.spelled)) ∙ sym q.same

-- the text of the members lists them
pub own_text : {K : Type 0} {R : K → K → Ordering} (o : IsTotalOrder R) (exact : IsAntisymmetric R)
    (text : K → List ℕ) (s : SetBy R) → IsListing text s (braces text (members s))
own_text o exact text s =
    record { items = members s; spelled = refl; same = sym (of_list-members o exact s) }
