-- How a node is opened, and opened again.
use Rattle.std.specs.Prelude.{◌≡◌, ◌⊎◌, ◌<◌, ◌≤◌, ◌+◌, ℕ, Bool, true, false, List, length}
use Rattle.std.specs.declared.option.Option.{Option}
use Rattle.std.specs.declared.option.Option.TheVariants.{None}
use Rattle.std.specs.declared.result.Result.{Result}
use Rattle.std.specs.declared.result.Result.TheVariants.{Ok, Err}
use Rattle.fl_labels.specs.SetBy as set
use Rattle.fl_labels.specs.SetBy.{SetBy}
use Rattle.fl_ops.specs.declared.op.Op.{Op}
use Rattle.fl_ops.specs.OpOrder.{op_cmp}
use Rattle.fl_jobs.specs.declared.answer.Refusal.TheVariants.{Memory, NamesSpent, Busy}
use Rattle.fl_bench.specs.Bench.{new_bench}
use Rattle.fl_store.specs.Kept.{Kept, with_ops, with_batch, raised}
use Rattle.fl_system.specs.declared.answer.Fault.{Fault}
use Rattle.fl_system.specs.declared.answer.Fault.TheVariants.{Refused, KeeperFailed, WrongNode}
use Rattle.fl_system.specs.declared.state.Batch.{Batch}
use Rattle.fl_system.specs.declared.state.Pending.TheVariants.{Nothing, Unsaved, Due}
use Rattle.fl_system.specs.declared.state.State.{State}
use Rattle.fl_system.specs.declared.state.State.TheVariants.{Running, Stopped}
use Rattle.fl_system.specs.Numbered.{items_to}
use Rattle.fl_system.specs.State.{NodeState, ops_of, ops_in, kept_of}
use Rattle.fl_system.specs.Waiting.{IsRunning}
use Rattle.fl_system.specs.Saves.{Saves, stored, halted}

-- A node at an opening: nothing is on its way, there is no process, and each desk sees all that is published.
abbrev pub starting : ℕ → ℕ → ℕ → SetBy op_cmp → List Op → NodeState
starting desks number boot saved published =
    record {
      number = number;
      boot = boot;
      saved = saved;
      published = published;
      views = items_to desks (λ desk. length published);
      state = Running Nothing;
      procs = 0;
      benches = items_to desks (λ index. new_bench number boot index desks);
    }

-- a node of so many desks opened over what is kept: all that is saved is published, in rising order
abbrev pub opened : ℕ → Kept → NodeState
opened desks k = starting desks k.number (k.boot + 1) k.saved (set.members k.saved)

-- why what is kept is not opened, where a node may open what is its own
pub data FailsToOpen (own : Kept → Type 0) (k : Kept) : Fault → Type 0 where
  no_room : FailsToOpen own k (Refused Memory)
  -- the keeper broke, or one of its rows is bad
  keeper_failed : FailsToOpen own k KeeperFailed
  -- it is not the node's
  other : ¬ own k → FailsToOpen own k WrongNode

-- What is kept is opened where it is the node's own and a boot is left, with its boot raised.
pub data Opens (desks : ℕ) (own : Kept → Type 0) (k : Kept) : Result NodeState Fault → Kept → Type 0 where
  opens : own k → k.boot < 4294967295 → Opens desks own k (Ok (opened desks k)) (raised k)
  -- no boot is left
  spent : own k → k.boot ≡ 4294967295 → Opens desks own k (Err (Refused NamesSpent)) k
  -- its boot may be raised all the same
  refused : {fault : Fault} {left : Kept} → FailsToOpen own k fault → (left ≡ k) ⊎ (left ≡ raised k)
      → Opens desks own k (Err fault) left

-- at a first opening
abbrev pub IsOf : ℕ → Kept → Type 0
IsOf number k = k.number ≡ number

-- at a further opening of a node of which this was kept, with this in doubt
pub record IsOwn (was : Kept) (doubt : Option Batch) (k : Kept) : Type 0 where
  pub number : k.number ≡ was.number
  pub boot : was.boot ≤ k.boot
  pub saved : (k.saved ≡ was.saved) ⊎ (k.saved ≡ with_ops was.saved (ops_in doubt))

-- what a node is stopped with, if it is
abbrev pub doubt_of : State → Option Batch
doubt_of (Running pending) = None
doubt_of (Stopped doubt) = doubt

-- the opening of the node n again, with this in doubt
abbrev pub OpensOwn : NodeState → Option Batch → Kept → Result NodeState Fault → Kept → Type 0
OpensOwn n doubt k result k' = Opens (length n.views) (IsOwn (kept_of n) doubt) k result k'

-- The node n is opened again over what is kept, or left stopped.
pub data OpensAgain (n : NodeState) (doubt : Option Batch) (k : Kept)
    : Result ℕ Fault → NodeState → Kept → Type 0 where
  opens : {n' : NodeState} {k' : Kept} → OpensOwn n doubt k (Ok n') k' → OpensAgain n doubt k (Ok n'.boot) n' k'
  stays : {fault : Fault} {k' : Kept} → OpensOwn n doubt k (Err fault) k'
      → OpensAgain n doubt k (Err fault) (halted n doubt) k'

-- A restart: what is pending and unsaved is saved first where it is to be kept, and else lost; then the node is opened again.
pub data Restarts (n : NodeState) (k : Kept) (keeps : Bool) : Result ℕ Fault → NodeState → Kept → Type 0 where
  -- the saving is refused
  not_saved : {batch : Batch} {fault : Fault} {n' : NodeState} {k' : Kept} → keeps ≡ true
      → n.state ≡ Running (Unsaved batch) → Saves n k (Err fault) n' k' → Restarts n k keeps (Err fault) n' k'
  saved : {batch : Batch} {result : Result ℕ Fault} {n' : NodeState} {k' : Kept} → keeps ≡ true
      → n.state ≡ Running (Unsaved batch)
      → OpensAgain (stored n batch) None (with_batch k (ops_of batch)) result n' k' → Restarts n k keeps result n' k'
  lost : {batch : Batch} {result : Result ℕ Fault} {n' : NodeState} {k' : Kept} → keeps ≡ false
      → n.state ≡ Running (Unsaved batch) → OpensAgain n None k result n' k' → Restarts n k keeps result n' k'
  idle : {result : Result ℕ Fault} {n' : NodeState} {k' : Kept} → n.state ≡ Running Nothing
      → OpensAgain n None k result n' k' → Restarts n k keeps result n' k'
  due : {batch : Batch} {result : Result ℕ Fault} {n' : NodeState} {k' : Kept} → n.state ≡ Running (Due batch)
      → OpensAgain n None k result n' k' → Restarts n k keeps result n' k'
  stopped : {doubt : Option Batch} {result : Result ℕ Fault} {n' : NodeState} {k' : Kept} → n.state ≡ Stopped doubt
      → OpensAgain n doubt k result n' k' → Restarts n k keeps result n' k'

-- A stopped node is opened again over what another keeper has kept; one that runs is left.
pub data Reopens (n : NodeState) (k : Kept) : Result ℕ Fault → NodeState → Kept → Type 0 where
  reopens : {doubt : Option Batch} {result : Result ℕ Fault} {n' : NodeState} {k' : Kept} → n.state ≡ Stopped doubt
      → OpensAgain n doubt k result n' k' → Reopens n k result n' k'
  running : IsRunning n.state → Reopens n k (Err (Refused Busy)) n k
