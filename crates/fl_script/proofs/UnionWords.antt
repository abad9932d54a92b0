-- Words of no union.
use Rattle.std.proofs.Common.{ℕ, List, [], ◌∷◌, codes, refl, rules}
use Rattle.fl_labels.specs.Words.{IsNumber}
use Rattle.fl_aliases.specs.Words.{Word}
use Rattle.fl_script.specs.Grammar.{Matches, Spells}
use Rattle.fl_script.specs.declared.line.Line.{Line}
use Rattle.fl_script.specs.declared.line.Line.TheVariants.{Node as OfNode, Union, Audit, Aliases}
use Rattle.fl_script.specs.laws.OneWord.{no_node}

-- after `union`, words that are not two nodes spell no line
pub no_union : (words : List Word) → ((n m : ℕ) → Matches (IsNumber n ∷ IsNumber m ∷ []) words → ⊥) → (line : Line) → Spells line (codes "union" ∷ words) → ⊥
no_union words none (Union n m) s = none n m s.1
no_union words none (OfNode n request) s = no_node n _ s.0 refl
no_union words none Audit s = absurd (search (rules, s.0))
no_union words none Aliases s = absurd (search (rules, s.0))
