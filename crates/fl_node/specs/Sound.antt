-- What is true of every node.
use Rattle.std.specs.Prelude.{◌≡◌, ◌<◌, ◌++◌, ℕ, List, [], length}
use Rattle.fl_labels.specs.SetBy as set
use Rattle.fl_labels.specs.SetBy.{SetBy}
use Rattle.fl_ops.specs.declared.op.Op.{Op}
use Rattle.fl_ops.specs.OpOrder.{op_cmp}
use Rattle.fl_opset.specs.Without.{without}
use Rattle.fl_store.specs.Custody.{Custody}
use Rattle.fl_store.specs.Kept.{Kept, AreNew, HasNamesOnce}
use Rattle.fl_store.specs.Keeping.{Held}
use Rattle.fl_system.specs.declared.state.State.{State}
use Rattle.fl_system.specs.declared.state.State.TheVariants.{Running, Stopped}
use Rattle.fl_system.specs.declared.state.Pending.TheVariants.{Nothing, Unsaved, Due}
use Rattle.fl_system.specs.State.{ops_of}
use Rattle.fl_node.specs.Over.{NodeOver}

-- what is to be saved has new names
abbrev pub IsFresh : State → SetBy op_cmp → Type 0
IsFresh (Running Nothing) saved = Unit {0}
IsFresh (Running (Unsaved batch)) saved = AreNew (ops_of batch) saved
IsFresh (Running (Due batch)) saved = Unit {0}
IsFresh (Stopped doubt) saved = Unit {0}

-- what of the saved operations is not published
abbrev pub unpublished : State → List Op
unpublished (Running Nothing) = []
unpublished (Running (Unsaved batch)) = []
unpublished (Running (Due batch)) = ops_of batch
unpublished (Stopped doubt) = []

-- what is published, with what is due, is what is saved, where the node runs
abbrev pub IsListed : State → List Op → SetBy op_cmp → Type 0
IsListed (Running Nothing) list saved = set.of_list list ≡ saved
IsListed (Running (Unsaved batch)) list saved = set.of_list list ≡ saved
IsListed (Running (Due batch)) list saved =
    (set.of_list list ≡ without saved (ops_of batch)) × (set.of_list (list ++ ops_of batch) ≡ saved)
IsListed (Stopped doubt) list saved = Unit {0}

-- an opening finds this alone, where the node runs
abbrev pub IsKeptOwn : State → Kept → Held → Type 0
IsKeptOwn (Running pending) own held = (k : Kept) → held k → k ≡ own
IsKeptOwn (Stopped doubt) own held = Unit {0}

-- What is true of every node: its number and its boot are not 0, its saved operations have each name
-- once, there is a bench for each desk, and what is saved, published and kept agree.
pub record IsSound (honest : Type 0) (held : Held) (number boot : ℕ) (saved : SetBy op_cmp)
    (published : List Op) (state : State) (desks benches : ℕ) : Type 0 where
  pub numbered : 0 < number
  pub booted : 0 < boot
  pub once : HasNamesOnce saved
  pub fresh : IsFresh state saved
  pub listed : IsListed state published saved
  pub kept : honest → IsKeptOwn state (record { number = number; boot = boot; saved = saved }) held
  pub paired : benches ≡ desks

-- the same of a node over its keeper
abbrev pub IsSoundOver : {K : Type 0} → Custody K → NodeOver K → Type 0
IsSoundOver custody n =
    IsSound (custody.is_honest n.keeper) (custody.may_hold n.keeper) n.node.number n.node.boot
    n.node.saved n.node.published n.node.state (length n.node.views) (length n.node.benches)
