-- Lines that end in `as $x`, and the memory that reading them takes.
use Rattle.std.proofs.Common.{◌≡◌, ◌≢◌, ◌++◌, ◌∙◌, inl, inr, refl, sym, subst, ℕ, List, [], ◌∷◌, codes}
use Rattle.std.specs.List.{All}
use Rattle.std.proofs.lemmas.List.Elements.{All-nil, All-cons, All-head, All-tail}
use Rattle.fl_aliases.specs.Alias.{alias_text}
use Rattle.fl_aliases.specs.Expansion.{NoDollar}
use Rattle.fl_aliases.specs.Words.{Word}
use Rattle.fl_labels.specs.Words.{NoComma}
use Rattle.fl_script.specs.Grammar.{HoldsBlock}
use Rattle.fl_script.specs.Reading.{EndsInAlias, WordsTakeMemory}
use Rattle.fl_script.specs.laws.Ends.{same_ends}
use Rattle.fl_script.specs.parts.Meaning.{WantsMemory}

front_all : (P : Word → Type 0) (front back : List Word) → All P (front ++ back) → All P front
front_all P [] back h = All-nil P
front_all P (w ∷ front) back h = All-cons P w front (All-head P w (front ++ back) h) (front_all P front back (All-tail P w (front ++ back) h))

back_all : (P : Word → Type 0) (front back : List Word) → All P (front ++ back) → All P back
back_all P [] back h = h
back_all P (w ∷ front) back h = back_all P front back (All-tail P w (front ++ back) h)

-- an alias is among the words
pub named_dollar : (words front : List Word) (alias : List ℕ) → words ≡ front ++ codes "as" ∷ alias_text alias ∷ [] → ¬ All NoDollar words
named_dollar words front alias split clean =
    let back = back_all NoDollar front (codes "as" ∷ alias_text alias ∷ []) (subst (All NoDollar) split clean) in
    let last = All-head NoDollar (alias_text alias) [] (All-tail NoDollar (codes "as") (alias_text alias ∷ []) back) in
    All-head (λ b. b ≢ 36) 36 alias last refl

-- what takes a block does so too where more words stand behind it
block_stays : (front back : List Word) → HoldsBlock front → HoldsBlock (front ++ back)
block_stays [] back h = absurd h
block_stays (node ∷ []) back h = absurd h
block_stays (node ∷ verb ∷ words) back h = record {
  is = elim h.is [
    | inl block ↦ inl block
    | inr tags ↦ inr (tags.0, λ plain. tags.1 (front_all NoComma words back plain))
  ];
}

-- what is read of words that end in `as $x` is what stands before
pub named_take : (words front : List Word) (alias : List ℕ) → EndsInAlias front alias words → WantsMemory front → WordsTakeMemory words
named_take words front alias end wants = record {
  is = elim wants.is [
    | inl dollar ↦ inl (record {
      anywhere = named_dollar words front alias end.split;
      before = λ other name ends clean.
          let same = same_ends other front (codes "as") (alias_text name) (codes "as") (alias_text alias) (sym ends.split ∙ end.split) in
          dollar (subst (All NoDollar) same.0 clean);
    })
    | inr holds ↦ inr (subst HoldsBlock (sym end.split) (block_stays front (codes "as" ∷ alias_text alias ∷ []) holds))
  ];
}

-- and else all of them
pub plain_take : (words : List Word) → ((front : List Word) (alias : List ℕ) → EndsInAlias front alias words → ⊥) → WantsMemory words → WordsTakeMemory words
plain_take words no_end wants = record {
  is = elim wants.is [
    | inl dollar ↦ inl (record { anywhere = dollar; before = λ front alias end. absurd (no_end front alias end) })
    | inr holds ↦ inr holds
  ];
}
