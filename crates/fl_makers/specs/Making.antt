-- What is promised of a maker of keepers, and of those that are made.
use Rattle.std.specs.Prelude.{◌≡◌, ◌⊎◌, ℕ}
use Rattle.fl_labels.specs.SetBy as set
use Rattle.fl_store.specs.Custody.{Custody}
use Rattle.fl_store.specs.Kept.{Kept}
use Rattle.fl_jobs.specs.declared.answer.Refusal.TheVariants.{Memory}
use Rattle.fl_system.specs.declared.answer.Fault.{Fault}
use Rattle.fl_system.specs.declared.answer.Fault.TheVariants.{Refused, KeeperFailed, WrongNode}

-- of a node that was never opened
abbrev pub nothing_kept : ℕ → Kept
nothing_kept number = record { number = number; boot = 0; saved = set.empty }

-- why a keeper over what is kept somewhere was not made: want of memory, a failure, or what is kept there is another node's
abbrev pub IsKeeperFault : Fault → Type 0
IsKeeperFault fault =
    (fault ≡ Refused Memory) ⊎ ((fault ≡ KeeperFailed) ⊎ (fault ≡ WrongNode))

-- what is promised of a maker, in one word
pub record Making (M K : Type 0) : Type 1 where
  -- which keepers may be made for the node of this number, from this maker on
  pub makes : M → ℕ → K → Type 0
  -- what one of them may hold
  pub finds : M → ℕ → Kept → Type 0
  -- why none may be made for it
  pub unmade : M → ℕ → Fault → Type 0
  -- why it may not be opened for its keeper's sake: none is made, or the one that is made fails
  pub refuses : M → ℕ → Fault → Type 0
  -- what another keeper of it may hold, that is made before this one is given back
  pub again : ℕ → Kept → Type 0

-- from the second maker on nothing is possible that was not from the first
pub record AllowsNoMore {M K : Type 0} (making : Making M K) (old new : M) : Type 0 where
  pub makes : (n : ℕ) (keeper : K) → making.makes new n keeper → making.makes old n keeper
  pub finds : (n : ℕ) (k : Kept) → making.finds new n k → making.finds old n k
  pub unmade : (n : ℕ) (fault : Fault) → making.unmade new n fault → making.unmade old n fault
  pub refuses : (n : ℕ) (fault : Fault) → making.refuses new n fault
      → making.refuses old n fault

-- A keeper of the node was made and is not given back: what is found of it is what another may hold.
abbrev pub IsOut : {M K : Type 0} → Making M K → M → ℕ → Type 0
IsOut making maker number = (k : Kept) → making.finds maker number k → making.again number k

-- The maker found this before, or it is what the keeper that was closed may hold, if that is honest.
abbrev pub MayBeFound : {M K : Type 0} → Custody K → Making M K → M → ℕ → K → ℕ → Kept → Type 0
MayBeFound custody making maker number keeper n k =
    making.finds maker n k ⊎ ((n ≡ number) × (custody.is_honest keeper → custody.may_hold keeper k))
