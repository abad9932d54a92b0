-- What a node's keeper has of it, and what of its saved set is published.
use Rattle.std.specs.Prelude.{◌≡◌, ◌⊎◌}
use Rattle.std.specs.List.{Contains}
use Rattle.fl_labels.specs.SetBy.{In}
use Rattle.fl_ops.specs.declared.op.Op.{Op}
use Rattle.fl_store.specs.Kept.{Kept}
use Rattle.fl_system.specs.State.{NodeState, kept_of}
use Rattle.fl_system.specs.Waiting.{IsRunning}
use Rattle.fl_system_laws.specs.Sound.{IsDue}

-- what is kept of a node that runs is what it saved, under its number and boot
pub record IsKeptOwn (n : NodeState) (k : Kept) : Type 0 where
  pub own : IsRunning n.state → k ≡ kept_of n

-- a node that runs has published all that it saved, but for what is due
pub record IsWhole (n : NodeState) : Type 0 where
  pub whole : IsRunning n.state → (op : Op) → In n.saved op
      → Contains n.published op ⊎ IsDue n.state op
