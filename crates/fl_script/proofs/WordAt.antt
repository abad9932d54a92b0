-- Each word is of its form.
use Rattle.std.proofs.Common.{◌<◌, ℕ, zero, suc, List, [], ◌∷◌, Bor, length, get_or, map, arith}
use Rattle.fl_aliases.specs.Words.{Word}
use Rattle.fl_script.specs.Grammar.{Matches, Never}

pub word_at : (ps : List (Word → Type 0)) (words : List (Bor Word)) (i : ℕ) (d : Bor Word) → i < length ps → Matches ps (map (λ w. w.now) words) → get_or ps i Never (get_or words i d).now
word_at [] words i d inside s = absurd (omega (arith, inside))
word_at (p ∷ ps) [] i d inside s = absurd s
word_at (p ∷ ps) (word ∷ words) zero d inside s = s.0
word_at (p ∷ ps) (word ∷ words) (suc i) d inside s = word_at ps words i d (omega (arith, inside)) s.1
