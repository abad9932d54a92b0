-- Why a node says that its keeper failed.
use Rattle.std.specs.Prelude.{◌≡◌, ◌⊎◌}
use Rattle.fl_store.specs.Custody.{Custody}
use Rattle.fl_store.specs.Kept.{with_batch}
use Rattle.fl_store.specs.Keeping.{Held, Follows}
use Rattle.fl_system.specs.declared.answer.Fault.{Fault}
use Rattle.fl_system.specs.declared.answer.Fault.TheVariants.{KeeperFailed}
use Rattle.fl_system.specs.declared.state.Batch.{Batch}
use Rattle.fl_system.specs.declared.state.Pending.TheVariants.{Unsaved}
use Rattle.fl_system.specs.declared.state.State.{State}
use Rattle.fl_system.specs.declared.state.State.TheVariants.{Running}
use Rattle.fl_system.specs.State.{ops_of}

-- where it says so the keeper is broken, for this cause, or, as far as it is honest, one of its rows is
-- bad
abbrev pub KeeperFails : Type 0 → Type 0 → Type 0 → Fault → Type 0
KeeperFails broken honest bad fault = fault ≡ KeeperFailed → broken ⊎ (honest → bad)

-- what was to be saved is kept too
abbrev pub IsStored : State → Held → Held → Type 0
IsStored state old new =
    (batch : Batch) × (state ≡ Running (Unsaved batch))
    × Follows (λ k k'. k' ≡ with_batch k (ops_of batch)) old new

-- A keeper with a bad row, of the same number: the one that the node had, or that after what was to be
-- saved was saved. Both are honest.
pub record LoadsBadRow {K : Type 0} (custody : Custody K) (state : State) (keeper : K) : Type 0 where
  pub loaded : K
  pub bad : custody.has_bad_row loaded
  pub honest : custody.is_honest loaded
  pub was_honest : custody.is_honest keeper
  pub number : custody.number loaded ≡ custody.number keeper
  pub left : (loaded ≡ keeper)
      ⊎ IsStored state (custody.may_hold keeper) (custody.may_hold loaded)
