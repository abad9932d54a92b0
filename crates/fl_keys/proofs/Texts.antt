-- What the front of a text says of all of it.
use Rattle.std.proofs.Common.{◌≡◌, ◌∙◌, ◌≤◌, ◌+◌, ◌-◌, ◌==◌, ◌++◌, ℕ, List, [], Option, None, Some, IfSome, length, take, slice_index, if◌then◌else◌, Bool, true, false, sym, ap, subst, arith}
use Rattle.std.specs.Prelude.{option_map}
use Rattle.std.proofs.lemmas.List.{length-take, take_all}
use Rattle.fl_keys.specs.KeyText.{SpellsKey}

-- only one byte is left out
short_by : (text : List ℕ) (b : Bool) → length text ≤ length (if b then take (length text - 1) text else text) + 1
short_by text true = omega (arith, length-take (length text - 1) text)
short_by text false = omega arith

pub short : (text key : List ℕ) → SpellsKey text key → length text ≤ 65
short text key it = omega (arith, short_by text (slice_index text (length text - 1) == 10), it.long)

-- what was read is the front of all that a reader has
abbrev pub IsFront : Option (List ℕ) → List ℕ → Type 0
IsFront known text = IfSome (option_map (take 66) known) (λ xs. text ≡ xs)

-- a reader that takes no more than so many bytes gives them
pub front_read : (known of_take : Option (List ℕ)) (limit : ℕ) (before after text : List ℕ) → of_take ≡ known → limit ≡ 66
    → before ≡ [] → text ≡ after → IfSome (option_map (take limit) of_take) (λ xs. after ≡ before ++ xs) → IsFront known text
front_read known of_take limit before after text same most none is read =
    subst (λ k. IsFront k text) same (given of_take read)
  where
    given : (k : Option (List ℕ)) → IfSome (option_map (take limit) k) (λ xs. after ≡ before ++ xs)
        → IsFront k text
    given None h = tt
    given (Some all) h = is ∙ h ∙ ap (λ b. b ++ take limit all) none ∙ ap (λ n. take n all) most

-- which spells a key just where all of it does
pub all_spell : (known : Option (List ℕ)) (text key : List ℕ) → IsFront known text → SpellsKey text key
    → IfSome known (λ all. SpellsKey all key)
all_spell None text key is it = tt
all_spell (Some all) text key is it =
    let few = short text key it in
    subst (λ t. SpellsKey t key) (is ∙ take_all 66 all (omega (arith, few, length-take 66 all, ap length is))) it

pub none_spells : (known : Option (List ℕ)) (text : List ℕ) → IsFront known text
    → ((key : List ℕ) → ¬ SpellsKey text key) → IfSome known (λ all. (key : List ℕ) → ¬ SpellsKey all key)
none_spells None text is none = tt
none_spells (Some all) text is none = λ key it.
    none key (subst (λ t. SpellsKey t key) (sym (is ∙ take_all 66 all (omega (arith, short all key it)))) it)
