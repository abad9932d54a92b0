-- What is true of every registrar.
use Rattle.std.specs.Prelude.{◌≡◌, Bool, true, false, List, []}
use Rattle.std.specs.declared.option.Option.{Option}
use Rattle.std.specs.declared.option.Option.TheVariants.{None, Some}
use Rattle.fl_ops.specs.declared.op.Op.{Op}
use Rattle.fl_store.specs.Custody.{Custody}
use Rattle.fl_store.specs.Kept.{Kept}
use Rattle.fl_system.specs.declared.state.Batch.{Batch}
use Rattle.fl_system.specs.State.{NodeState, ops_of}
use Rattle.fl_replica.specs.Boards.{Pressed}
use Rattle.fl_registrar.specs.Listing.{HasListed}
use Rattle.fl_registrar.specs.declared.waiting.Waiting.{Waiting}
use Rattle.fl_registrar.specs.parts.Stages.{IsAt, staged_at}

-- what is due
abbrev pub due_of : Option Waiting → Option Batch
due_of None = None
due_of (Some waiting) = Some waiting.batch

-- what of it the press has staged
abbrev pub staged_of : Option Waiting → List Op
staged_of None = []
staged_of (Some waiting) = staged_at waiting.stage (ops_of waiting.batch)

-- where the node is beside the press's list, while the registrar runs
abbrev pub Stands : Bool → Option Waiting → NodeState → List Op → Type 0
Stands true waiting n list = Unit {0}
Stands false None n list = HasListed n list []
Stands false (Some waiting) n list = IsAt waiting.stage n list (ops_of waiting.batch)

pub record IsSound {K : Type 0} (custody : Custody K) (keeper : K) (n : NodeState)
    (press : Pressed) (waiting : Option Waiting) (stopped : Bool) : Type 0 where
  pub staged_is : press.staged ≡ staged_of waiting
  -- as far as the keeper may be trusted
  pub stands : custody.is_honest keeper → (k : Kept) → custody.may_hold keeper k
      → Stands stopped waiting n press.list
