-- Why somebody has a capability: the first of the shortest chains that lead to it.
use Rattle.std.specs.Prelude.{◌≡◌, List, Option, MatchOption}
use Rattle.std.specs.List.{Contains}
use Rattle.fl_labels.specs.Caps.{Caps}
use Rattle.fl_labels.specs.Name.{name_cmp}
use Rattle.fl_labels.specs.declared.cap.Cap.{Cap}
use Rattle.fl_labels.specs.declared.name.Name.{Name}
use Rattle.fl_ops.specs.Registry.{Listed, Reach}
use Rattle.fl_ops.specs.declared.op.Op.{Op}
use Rattle.fl_chains.specs.Chain.{IsLeastChain}
use Rattle.fl_chains.specs.Giver.{IsGiver}
use Rattle.fl_chains.specs.Least.{IsLeast}
use Rattle.fl_explanations.specs.declared.why.First.{First}
use Rattle.fl_explanations.specs.declared.why.First.TheVariants.{Owns, Everybody, Uses}
use Rattle.fl_explanations.specs.declared.why.Why.{Why}

-- how who owns these has the root of a chain: it is owned, or else everybody's, by the least of the
-- operations that give it to everybody
abbrev pub BeginsOwned : List Op → List Cap → Cap → First → Type 0
BeginsOwned ops owned root (Owns cap) = (cap ≡ root) × Contains owned root
BeginsOwned ops owned root (Everybody name) =
    (¬ Contains owned root) × IsLeast name_cmp (IsGiver (Listed ops) root) name
BeginsOwned ops owned root (Uses group) = ⊥

-- it is the use of this group
abbrev pub BeginsWithUse : Name → Cap → First → Type 0
BeginsWithUse group root (Owns cap) = ⊥
BeginsWithUse group root (Everybody name) = ⊥
BeginsWithUse group root (Uses used) = used ≡ group

-- the first chain to c from some root, which begins so
pub record IsWhy (ops : List Op) (roots : Caps) (Begins : Cap → First → Type 0) (c : Cap) (why : Why)
    : Type 0 where
  pub root : Cap
  pub chain : IsLeastChain (Listed ops) roots c root why.steps.items
  pub begins : Begins root why.first

-- that, or none where no chain leads to c
abbrev pub FindsWhy : List Op → Caps → (Cap → First → Type 0) → Cap → Option Why → Type 0
FindsWhy ops roots Begins c found =
    MatchOption found (¬ Reach (Listed ops) roots c) (IsWhy ops roots Begins c)
