-- Words that are places, and words that are no uses of groups.
use Rattle.std.proofs.Common.{arith, ◌≡◌, ◌≢◌, ◌+◌, ◌∙◌, ℕ, zero, suc, List, [], ◌∷◌, ap, codes, refl, Option, None, Some}
use Rattle.std.proofs.lemmas.Fmt.{decimal_by_steps}
use Rattle.std.specs.Fmt.{decimal}
use Rattle.fl_labels.specs.Found.{Finds}
use Rattle.fl_labels.specs.Text.{cap_text}
use Rattle.fl_labels.specs.declared.cap.Cap.{Cap}
use Rattle.fl_labels.specs.declared.cap.Cap.TheVariants.{Use}
use Rattle.fl_labels.specs.declared.name.Name.{Name}
use Rattle.fl_script.specs.laws.OneWord.{same_cap}
use Rattle.fl_labels.specs.Words.{IsNumber}
use Rattle.fl_machine_lines.specs.Grammar.{IsPlace}

pub zero_text : decimal 0 ≡ codes "0"
zero_text =
    decimal_by_steps (λ m ds. m ≡ 0 → ds ≡ codes "0") (λ m l e. ap (λ k. (48 + k) ∷ []) e)
    (λ m ds l h e. absurd (omega (arith, l, e))) 0 (omega arith) refl

-- but for 0, places are numbers
pub a_number : (found : Option ℕ) (word : List ℕ) → word ≢ codes "0"
    → Finds found (λ n. IsNumber n word) → Finds found (λ place. IsPlace place word)
a_number (Some n) word not_zero is = record { in_range = is.in_range; written = is.written }
a_number None word not_zero none = no_place
  where
    no_place : (place : ℕ) → IsPlace place word → ⊥
    no_place zero p = not_zero (p.written ∙ zero_text)
    no_place (suc k) p =
        none (suc k)
        (record { above = omega arith; in_range = p.in_range; written = p.written })

-- what is read of a word is no use of a group where the word is none
pub no_use : (found : Option Cap) (word : List ℕ) → Finds found (λ c. word ≡ cap_text c)
    → ((group : Name) → found ≡ Some (Use group) → ⊥) → (group : Name)
    → word ≡ cap_text (Use group) → ⊥
no_use (Some c) word is other group e =
    other group (ap Some (same_cap c (Use group) (record { word = word; left = is; right = e })))
no_use None word none other group e = none (Use group) e
