-- The registrar's node beside the books: what its calls answer is what the record says.
use Rattle.std.specs.Prelude.{◌≡◌, ℕ, [], ◌∷◌, ◌++◌}
use Rattle.std.specs.declared.option.Option.{Option}
use Rattle.std.specs.declared.option.Option.TheVariants.{None, Some}
use Rattle.fl_labels.specs.SetBy as set
use Rattle.fl_labels.specs.SetBy.{SetBy}
use Rattle.fl_labels.specs.declared.pid.Pid.{Pid}
use Rattle.fl_ops.specs.OpOrder.{op_cmp}
use Rattle.fl_ops.specs.declared.op.Op.{Op}
use Rattle.fl_store.specs.Kept.{with_ops}
use Rattle.fl_system.specs.declared.state.Batch.{Batch}
use Rattle.fl_system.specs.declared.state.Batch.TheVariants.{Ordered}
use Rattle.fl_system.specs.declared.state.Pending.TheVariants.{Nothing, Unsaved, Due}
use Rattle.fl_system.specs.declared.state.State.{State}
use Rattle.fl_system.specs.declared.state.State.TheVariants.{Running, Stopped}
use Rattle.fl_system.specs.State.{NodeState}
use Rattle.fl_crew_model.specs.Books.{Books, MakesOne, SavesOne, IsNew}

-- between two deeds nothing is unsaved, and something is due at the node where it is in the books
abbrev pub Reflects : State → Option Batch → Type 0
Reflects (Running Nothing) due = due ≡ None
Reflects (Running (Unsaved batch)) due = ⊥
Reflects (Running (Due batch)) due = (waiting : Batch) × (due ≡ Some waiting)
Reflects (Stopped doubt) due = ⊥

-- the node has the books' operations; its own list and benches, and for whom something is due, play
-- no part
pub record IsRegistrar (number : ℕ) (r : NodeState) (b : Books) : Type 0 where
  pub numbered : r.number ≡ number
  pub saved : r.saved ≡ b.saved
  pub reflects : Reflects r.state b.due

-- once an order is begun and saved: the deed where it is published, and where it is not
pub record IsOrdered (number : ℕ) (b : Books) (op : Op) (saved : SetBy op_cmp) : Type 0 where
  pub made : MakesOne number b op (record { saved = saved; list = b.list ++ op ∷ []; due = None })
  pub late : (worker : ℕ) (pid : Pid) → SavesOne number b worker op pid
      (record { saved = saved; list = b.list; due = Some (Ordered op (Some pid) (Some worker)) })

-- once the new operations of a packet are saved
pub record IsTaken (number : ℕ) (b : Books) (ops : SetBy op_cmp) (count : ℕ) (saved : SetBy op_cmp)
    : Type 0 where
  pub new : SetBy op_cmp
  pub are_new : IsNew number b ops new
  pub counted : count ≡ set.len new
  pub all : saved ≡ with_ops b.saved (set.members new)
