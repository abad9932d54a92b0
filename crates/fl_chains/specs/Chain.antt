-- Chains with their steps, and which of them comes first.
use Rattle.std.specs.Prelude.{◌≡◌, false, List, [], ◌∷◌, length, map, Option, MatchOption}
use Rattle.std.specs.declared.cmp.Ordering.{Ordering}
use Rattle.std.specs.Ordering.{nat_cmp, ordering_then, is_gt}
use Rattle.std.specs.Cmp.Lexicographic.{slice_cmp}
use Rattle.fl_labels.specs.Caps.{Caps}
use Rattle.fl_labels.specs.declared.name.Name.{Name}
use Rattle.fl_labels.specs.Name.{name_cmp}
use Rattle.fl_labels.specs.declared.cap.Cap.{Cap}
use Rattle.fl_labels.specs.declared.cap.Cap.TheVariants.{Use}
use Rattle.fl_labels.specs.Cap.{cap_cmp}
use Rattle.fl_ops.specs.Registry.{Registry, Reach}
use Rattle.fl_chains.specs.declared.step.Step.{Step}
use Rattle.fl_chains.specs.declared.chain.Chain as chains
use Rattle.fl_chains.specs.Step.{put_op}

-- These steps lead from the first capability to the last: each from the use of a group to what
-- an operation of the registry puts into the group.
pub data ChainBy (U : Registry) : Cap → List Step → Cap → Type 0 where
  here : {c : Cap} → ChainBy U c [] c
  step : {s : Step} {steps : List Step} {c : Cap}
      → U (put_op s) → ChainBy U s.cap steps c → ChainBy U (Use s.group) (s ∷ steps) c

-- the capabilities along a chain, the root first
abbrev pub path_of : Cap → List Step → List Cap
path_of root steps = root ∷ map (λ s. s.cap) steps

-- the names of the operations that it rests on
abbrev pub names_of : List Step → List Name
names_of steps = map (λ s. s.name) steps

-- by the capabilities along them, and then by the names of the operations
abbrev pub path_cmp : Cap → List Step → Cap → List Step → Ordering
path_cmp root steps other others = ordering_then
    (slice_cmp cap_cmp (path_of root steps) (path_of other others))
    (slice_cmp name_cmp (names_of steps) (names_of others))

-- the shorter one first, and of as many steps by these
abbrev pub chain_cmp : Cap → List Step → Cap → List Step → Ordering
chain_cmp root steps other others =
    ordering_then (nat_cmp (length steps) (length others)) (path_cmp root steps other others)

-- a chain to c from some root, before which no other one comes
pub record IsLeastChain
    (U : Registry) (roots : Caps) (c : Cap) (root : Cap) (steps : List Step) : Type 0 where
  pub rooted : roots root
  pub leads : ChainBy U root steps c
  pub least : (other : Cap) (others : List Step) → roots other → ChainBy U other others c
      → is_gt (chain_cmp root steps other others) ≡ false

-- the first chain to c from some root, or none where no chain leads to it
abbrev pub FindsChain : Registry → Caps → Cap → Option chains.Chain → Type 0
FindsChain U roots c r = MatchOption r
    (¬ Reach U roots c) (λ found. IsLeastChain U roots c found.root found.steps.items)
