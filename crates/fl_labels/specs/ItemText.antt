-- The texts of what lists may hold have no comma.
use Rattle.std.proofs.Common.{◌≡◌, ℕ, false, List, [], ◌∷◌, refl, arith}
use Rattle.std.specs.Fmt.{decimal}
use Rattle.std.specs.Str.Parse.{AllDigits, digits_value}
use Rattle.std.proofs.lemmas.Bool.{ne_eqb}
use Rattle.std.proofs.lemmas.List.Elements.{All-nil, All-cons, All-append}
use Rattle.std.proofs.lemmas.Str.Parse.{IsNumeralModel, numerals_by_value, tells_digits, digit_from_value}
use Rattle.std.proofs.lemmas.Fmt.{digits_decimal}
use Rattle.fl_labels.specs.declared.name.Name.{Name}
use Rattle.fl_labels.specs.declared.cap.Cap.{Cap}
use Rattle.fl_labels.specs.declared.cap.Cap.TheVariants.{Plus, Minus, Use, Grow}
use Rattle.fl_labels.specs.Text.{name_text, cap_text}
use Rattle.fl_labels.specs.Words.{is_comma, NoComma}

pub own : IsNumeralModel (AllDigits 10) (digits_value 10)
own = numerals_by_value (AllDigits 10) tells_digits

digits : (ds : List ℕ) → AllDigits 10 ds → NoComma ds
digits [] a = All-nil (λ b. is_comma b ≡ false)
digits (c ∷ cs) a =
    let range = digit_from_value c a.0 in
    All-cons (λ b. is_comma b ≡ false) c cs (ne_eqb c 44 (λ e. absurd (omega (arith, range.0)))) (digits cs a.1)

pub no_comma-name_text : (n : Name) → NoComma (name_text n)
no_comma-name_text n =
    All-append (λ b. is_comma b ≡ false) (decimal n.node) (46 ∷ decimal n.seq)
    (digits _ (digits_decimal own n.node (omega (arith, n.node_in_range))))
    (All-cons (λ b. is_comma b ≡ false) 46 (decimal n.seq) refl
    (digits _ (digits_decimal own n.seq (omega (arith, n.seq_in_range)))))

pub no_comma-cap_text : (c : Cap) → NoComma (cap_text c)
no_comma-cap_text (Plus n) = All-cons (λ b. is_comma b ≡ false) 43 (name_text n) refl (no_comma-name_text n)
no_comma-cap_text (Minus n) = All-cons (λ b. is_comma b ≡ false) 45 (name_text n) refl (no_comma-name_text n)
no_comma-cap_text (Use n) = All-cons (λ b. is_comma b ≡ false) 42 (name_text n) refl (no_comma-name_text n)
no_comma-cap_text (Grow n) = All-cons (λ b. is_comma b ≡ false) 94 (name_text n) refl (no_comma-name_text n)
