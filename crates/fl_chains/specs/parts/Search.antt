-- How many steps capabilities are away from one, and what a walk backwards finds.
use Rattle.std.specs.Prelude.{◌≡◌, ◌↔◌, ◌⊎◌, ◌<◌, false, ℕ, List, length, MatchOption}
use Rattle.std.specs.List.{Contains}
use Rattle.std.specs.Ordering.{is_gt}
use Rattle.fl_labels.specs.Caps.{Caps}
use Rattle.fl_labels.specs.declared.cap.Cap.{Cap}
use Rattle.fl_labels.specs.Cap.{cap_cmp}
use Rattle.fl_ops.specs.Registry.{Registry, Chain, Reach}
use Rattle.fl_chains.specs.declared.step.Step.{Step}
use Rattle.fl_chains.specs.declared.legs.Leg.{Leg}
use Rattle.fl_chains.specs.declared.search.Walk.{Walk}
use Rattle.fl_chains.specs.Step.{put_op}
use Rattle.fl_chains.specs.Chain.{ChainBy}

-- n steps lead from b to c
pub record IsAway (U : Registry) (c : Cap) (n : ℕ) (b : Cap) : Type 0 where
  pub steps : List Step
  pub leads : ChainBy U b steps c
  pub count : length steps ≡ n

-- fewer than n do
pub record IsNearer (U : Registry) (c : Cap) (n : ℕ) (b : Cap) : Type 0 where
  pub steps : List Step
  pub leads : ChainBy U b steps c
  pub fewer : length steps < n

-- Steps to c, fewer than n from it: each leads on with as many left as it says, and each that does
-- is there, unless its
-- capability is nearer.
pub record AreLegs (U : Registry) (c : Cap) (n : ℕ) (legs : List Leg) : Type 0 where
  pub sound : (l : Leg) → Contains legs l → U (put_op l.step) × IsAway U c l.left l.step.cap
  pub all : (s : Step) (k : ℕ) → k < n → U (put_op s) → IsAway U c k s.cap
      → Contains legs (record { step = s; left = k }) ⊎ IsNearer U c k s.cap

-- the steps of all chains to c
abbrev pub AreSteps : Registry → Cap → List Leg → Type 0
AreSteps U c legs = (s : Step)
    → ((l : Leg) × Contains legs l × (l.step ≡ s)) ↔ (U (put_op s) × Chain U s.cap c)

-- the least root of those that are so many steps away, and none is nearer
pub record IsNearest (U : Registry) (roots : Caps) (c root : Cap) (away : ℕ) (legs : List Leg)
    : Type 0 where
  pub rooted : roots root
  pub so_far : IsAway U c away root
  pub none_nearer : (r : Cap) → roots r → ¬ IsNearer U c away r
  pub least : (r : Cap) → roots r → IsAway U c away r → is_gt (cap_cmp root r) ≡ false
  pub lead : AreLegs U c away legs

-- it, or where no root leads to c all steps that do
abbrev pub Walks : Registry → Caps → Cap → Walk → Type 0
Walks U roots c walk = MatchOption walk.root
    ((¬ Reach U roots c) × AreSteps U c walk.legs.items)
    (λ root. IsNearest U roots c root walk.away walk.legs.items)
