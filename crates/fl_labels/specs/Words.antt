-- How a word spells a value.
use Rattle.std.specs.Prelude.{◌≡◌, ℕ, ◌<◌, ◌^◌, Bool, false, eqb, List}
use Rattle.std.specs.Fmt.{decimal}
use Rattle.std.specs.List.{All}
use Rattle.std.specs.declared.cmp.Ordering.{Ordering}
use Rattle.fl_labels.specs.SetBy.{SetBy, of_list}
use Rattle.fl_labels.specs.Text.{braces}

-- the word is the decimal of n, a number from 1 to 4294967295
pub record IsNumber (n : ℕ) (word : List ℕ) : Type 0 where
  pub above : 0 < n
  pub in_range : n < 2 ^ 32
  pub written : word ≡ decimal n

-- the bytes list the members of s in braces, in any order, a repeated one once
pub record IsListing {K : Type 0} {R : K → K → Ordering}
    (text : K → List ℕ) (s : SetBy R) (bytes : List ℕ) : Type 0 where
  pub items : List K
  pub spelled : bytes ≡ braces text items
  pub same : s ≡ of_list items

abbrev pub is_comma : ℕ → Bool
is_comma b = eqb b 44

-- no comma stands in these bytes, so that commas may separate such
abbrev pub NoComma : List ℕ → Type 0
NoComma bytes = All (λ b. is_comma b ≡ false) bytes
