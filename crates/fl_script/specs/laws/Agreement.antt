-- Words that are of two lists of forms at once.
use Rattle.std.proofs.Common.{List, [], ◌∷◌}
use Rattle.fl_aliases.specs.Words.{Word}
use Rattle.fl_script.specs.Grammar.{Matches}

-- one word is of both forms
pub record Both (p q : Word → Type 0) : Type 0 where
  pub word : Word
  pub left : p word
  pub right : q word

-- form by form, one word is of both
abbrev pub Agree : List (Word → Type 0) → List (Word → Type 0) → Type 0
Agree [] [] = Unit {0}
Agree (p ∷ ps) (q ∷ qs) = Both p q × Agree ps qs
Agree [] (q ∷ qs) = ⊥
Agree (p ∷ ps) [] = ⊥

pub agree : (ps qs : List (Word → Type 0)) (words : List Word) → Matches ps words → Matches qs words → Agree ps qs
agree [] [] words s t = tt
agree (p ∷ ps) (q ∷ qs) (word ∷ words) s t = (record { word = word; left = s.0; right = t.0 }, agree ps qs words s.1 t.1)
agree [] (q ∷ qs) [] s t = absurd t
agree [] (q ∷ qs) (word ∷ words) s t = absurd s
agree (p ∷ ps) [] [] s t = absurd s
agree (p ∷ ps) [] (word ∷ words) s t = absurd t
agree (p ∷ ps) (q ∷ qs) [] s t = absurd s

pub turned : (ps qs : List (Word → Type 0)) → Agree ps qs → Agree qs ps
turned [] [] g = tt
turned (p ∷ ps) (q ∷ qs) g = (record { word = g.0.word; left = g.0.right; right = g.0.left }, turned ps qs g.1)
turned [] (q ∷ qs) g = absurd g
turned (p ∷ ps) [] g = absurd g
