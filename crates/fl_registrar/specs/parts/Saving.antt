-- What becomes of what a node has begun.
use Rattle.std.specs.Prelude.{◌≡◌, ◌⊎◌}
use Rattle.std.specs.declared.option.Option.TheVariants.{Some}
use Rattle.fl_store.specs.Kept.{Kept, with_batch}
use Rattle.fl_system.specs.declared.state.Batch.{Batch}
use Rattle.fl_system.specs.declared.state.Pending.TheVariants.{Unsaved}
use Rattle.fl_system.specs.declared.state.State.TheVariants.{Running}
use Rattle.fl_system.specs.State.{NodeState, ops_of}
use Rattle.fl_system.specs.Saves.{stored, halted}
use Rattle.fl_system.specs.Publishes.{cancelled_with}
use Rattle.fl_registrar.specs.declared.saving.Saving.{Saving}
use Rattle.fl_registrar.specs.declared.saving.Saving.TheVariants.{Saved, NoMemory, Broken}

-- the node with this batch begun, and what is kept of it, after the saving
abbrev pub BecomesOf : NodeState → Batch → Kept → Saving → NodeState → Kept → Type 0
BecomesOf n batch k Saved n' k' = (n' ≡ stored n batch) × (k' ≡ with_batch k (ops_of batch))
BecomesOf n batch k NoMemory n' k' = (n' ≡ cancelled_with n batch) × (k' ≡ k)
BecomesOf n batch k Broken n' k' =
    (n' ≡ halted n (Some batch)) × ((k' ≡ k) ⊎ (k' ≡ with_batch k (ops_of batch)))

abbrev pub Becomes : NodeState → Kept → Saving → NodeState → Kept → Type 0
Becomes n k saving n' k' =
    (batch : Batch) → n.state ≡ Running (Unsaved batch) → BecomesOf n batch k saving n' k'
