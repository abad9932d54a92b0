-- How a node joins a world, and how a stopped one is opened over another keeper.
use Rattle.std.specs.Prelude.{◌≡◌, ◌≢◌, ◌<◌, ◌+◌, ℕ, []}
use Rattle.std.specs.FinMap as map
use Rattle.std.specs.declared.cmp.Ordering.TheVariants.{Less}
use Rattle.std.specs.declared.option.Option.{Option}
use Rattle.std.specs.declared.option.Option.TheVariants.{None}
use Rattle.std.specs.declared.result.Result.TheVariants.{Ok, Err}
use Rattle.fl_labels.specs.Name.{name_cmp}
use Rattle.fl_labels.specs.SetBy.{SetBy, In}
use Rattle.fl_labels.specs.declared.name.Name.{Name}
use Rattle.fl_ops.specs.OpOrder.{op_cmp}
use Rattle.fl_ops.specs.declared.op.Op.{Op}
use Rattle.fl_jobs.specs.declared.answer.Refusal.TheVariants.{Busy}
use Rattle.fl_store.specs.Kept.{Kept, HasNamesOnce, raised}
use Rattle.fl_system.specs.declared.answer.Fault.{Fault}
use Rattle.fl_system.specs.declared.answer.Fault.TheVariants as faults
use Rattle.fl_system.specs.declared.reply.Reply.{Reply}
use Rattle.fl_system.specs.declared.reply.Reply.TheVariants.{Booted, NoSuch, Refused}
use Rattle.fl_system.specs.declared.state.Batch.{Batch}
use Rattle.fl_system.specs.declared.state.State.TheVariants.{Stopped}
use Rattle.fl_system.specs.State.{NodeState}
use Rattle.fl_system.specs.Waiting.{IsRunning}
use Rattle.fl_system.specs.Openings.{Opens, OpensAgain, IsOf, opened}
use Rattle.fl_system.specs.World.{World, KeptNode, went}
use Rattle.fl_system.specs.WorldSteps.{IsAt}
use Rattle.fl_system.specs.Union.{Union}

-- the world with a node of this number opened over what is kept
abbrev pub joined : World → ℕ → Kept → World
joined w number k = went w number (opened w.desks k) (raised k) [] []

-- an operation of the set and one that a node of the world has saved differ, and have this name
pub record IsClashAt (w : World) (saved : SetBy op_cmp) (name : Name) : Type 0 where
  pub ours : Op
  pub theirs : Op
  pub in_set : In saved ours
  pub in_world : Union w theirs
  pub our_name : ours.name ≡ name
  pub their_name : theirs.name ≡ name
  pub differ : ours ≢ theirs

-- an operation of this name is saved, though not by the node whose number it has, which is there
pub record IsStray (w : World) (name : Name) : Type 0 where
  pub op : Op
  pub op_name : op.name ≡ name
  pub in_world : Union w op
  pub owner : KeptNode
  pub there : IsAt w op.name.node owner
  pub unknown : ¬ In owner.node.saved op

-- the least of the names of which P holds
pub record IsLeastName (P : Name → Type 0) (name : Name) : Type 0 where
  pub holds : P name
  pub least : (other : Name) → P other → name_cmp other name ≢ Less

-- A node of this number joins the world over what is kept.
pub data Joins (w : World) (number : ℕ) (k : Kept) : Reply → World → Type 0 where
  -- a node of this number is there
  there : {s : KeptNode} → IsAt w number s → Joins w number k (Refused faults.WrongNode) w
  -- the opening is refused
  not_opened : {fault : Fault} {left : Kept} → map.get w.nodes number ≡ None
      → Opens w.desks (IsOf number) k (Err fault) left → Joins w number k (Refused fault) w
  -- or else something else is saved under one of its names
  clash : {name : Name} → map.get w.nodes number ≡ None → IsOf number k → k.boot < 4294967295
      → IsLeastName (IsClashAt w k.saved) name → Joins w number k (Refused (faults.Clash name)) w
  -- or else a node would not have saved what was made under its number
  impostor : {name : Name} → map.get w.nodes number ≡ None → IsOf number k → k.boot < 4294967295
      → ((other : Name) → ¬ IsClashAt w k.saved other)
      → IsLeastName (IsStray (joined w number k)) name
      → Joins w number k (Refused (faults.Impostor name)) w
  joins : map.get w.nodes number ≡ None → IsOf number k → k.boot < 4294967295 → HasNamesOnce k.saved
      → ((name : Name) → ¬ IsClashAt w k.saved name)
      → ((name : Name) → ¬ IsStray (joined w number k) name)
      → Joins w number k (Booted (k.boot + 1)) (joined w number k)

-- The node of this number is opened again over what another keeper has kept.
pub data Reopening (w : World) (number : ℕ) (k : Kept) : Reply → World → Type 0 where
  no_node : map.get w.nodes number ≡ None → Reopening w number k NoSuch w
  -- it runs, and keeps its own keeper
  running : {s : KeptNode} → IsAt w number s → IsRunning s.node.state
      → Reopening w number k (Refused (faults.Refused Busy)) w
  booted : {s : KeptNode} {doubt : Option Batch} {boot : ℕ} {n : NodeState} {k' : Kept}
      → IsAt w number s → s.node.state ≡ Stopped doubt → OpensAgain s.node doubt k (Ok boot) n k'
      → Reopening w number k (Booted boot) (went w number n k' [] [])
  refused : {s : KeptNode} {doubt : Option Batch} {fault : Fault} {n : NodeState} {k' : Kept}
      → IsAt w number s → s.node.state ≡ Stopped doubt → OpensAgain s.node doubt k (Err fault) n k'
      → Reopening w number k (Refused fault) (went w number n k' [] [])
