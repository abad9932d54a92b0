-- What the registrar's record says: each deed in turn, and what it did to the saved set and the
-- list.
use Rattle.std.specs.Prelude.{◌≡◌, ℕ, ◌<◌, List, [], ◌∷◌, ◌++◌, length}
use Rattle.std.specs.declared.option.Option.{Option}
use Rattle.std.specs.declared.option.Option.TheVariants.{None, Some}
use Rattle.std.specs.declared.result.Result.{Result}
use Rattle.std.specs.declared.result.Result.TheVariants.{Ok, Err}
use Rattle.fl_labels.specs.SetBy as set
use Rattle.fl_labels.specs.SetBy.{SetBy, In}
use Rattle.fl_labels.specs.declared.pid.Pid.{Pid}
use Rattle.fl_ops.specs.OpOrder.{op_cmp}
use Rattle.fl_ops.specs.declared.op.Op.{Op}
use Rattle.fl_jobs.specs.declared.answer.Refusal.TheVariants as refusals
use Rattle.fl_store.specs.Kept.{with_ops}
use Rattle.fl_system.specs.declared.answer.Fault.{Fault}
use Rattle.fl_system.specs.declared.answer.Fault.TheVariants as faults
use Rattle.fl_system.specs.declared.state.Batch.{Batch}
use Rattle.fl_system.specs.declared.state.Batch.TheVariants.{Ordered, Received}
use Rattle.fl_system.specs.declared.state.Pending.TheVariants.{Nothing, Due}
use Rattle.fl_system.specs.declared.state.State.{State}
use Rattle.fl_system.specs.declared.state.State.TheVariants.{Running}
use Rattle.fl_system.specs.State.{NodeState}
use Rattle.fl_system.specs.Naming.{IsLast, IsNextAfter}
use Rattle.fl_system.specs.Receives.{IsImpostor, IsClash, IsFirstRefused, CanTake, AreLacking, HasNew}
use Rattle.fl_crew_model.specs.declared.record.Reason.{Reason}
use Rattle.fl_crew_model.specs.declared.record.Reason.TheVariants.{Busy, NamesSpent, Memory}
use Rattle.fl_crew_model.specs.declared.record.Ruling.{Ruling}
use Rattle.fl_crew_model.specs.declared.record.Ruling.TheVariants.{Made, Late, GivenUp}
use Rattle.fl_crew_model.specs.declared.record.Decision.{Decision}
use Rattle.fl_crew_model.specs.declared.record.Verdict.{Verdict}
use Rattle.fl_crew_model.specs.declared.record.Verdict.TheVariants.{Taken, TakenLate, Declined}
use Rattle.fl_crew_model.specs.declared.record.Delivery.{Delivery}
use Rattle.fl_crew_model.specs.declared.record.Deed.{Deed}
use Rattle.fl_crew_model.specs.declared.record.Deed.TheVariants.{Decided, Delivered}

-- what is saved, the published list, and the batch that is saved and due
pub record Books : Type 0 where
  pub saved : SetBy op_cmp
  pub list : List Op
  pub due : Option Batch

-- ---- orders

-- the operation gets the next name, and is saved and published
pub record MakesOne (number : ℕ) (b : Books) (op : Op) (b' : Books) : Type 0 where
  pub idle : b.due ≡ None
  pub named : IsNextAfter b.saved number op.name
  pub new : b' ≡ record {
    saved = with_ops b.saved (op ∷ []);
    list = b.list ++ op ∷ [];
    due = None;
  }

-- the operation gets the next name, is saved, and is due for its maker at this desk
pub record SavesOne (number : ℕ) (b : Books) (worker : ℕ) (op : Op) (pid : Pid) (b' : Books)
    : Type 0 where
  pub idle : b.due ≡ None
  pub named : IsNextAfter b.saved number op.name
  pub new : b' ≡ record {
    saved = with_ops b.saved (op ∷ []);
    list = b.list;
    due = Some (Ordered op (Some pid) (Some worker));
  }

-- something is due
pub record IsBusy (b b' : Books) : Type 0 where
  pub due : Batch
  pub is_due : b.due ≡ Some due
  pub same : b' ≡ b

-- no name is left
pub record IsSpent (number : ℕ) (b b' : Books) : Type 0 where
  pub idle : b.due ≡ None
  pub is_last : IsLast b.saved number 4294967295
  pub same : b' ≡ b

-- why an order is given up
abbrev pub GivesUp : ℕ → Books → Reason → Books → Type 0
GivesUp number b Busy b' = IsBusy b b'
GivesUp number b NamesSpent b' = IsSpent number b b'
GivesUp number b Memory b' = b' ≡ b

-- what a ruling on an order of this worker does to the books
abbrev pub Changes : ℕ → Books → ℕ → Ruling → Books → Type 0
Changes number b worker (Made op) b' = MakesOne number b op b'
Changes number b worker (Late op pid) b' = SavesOne number b worker op pid b'
Changes number b worker (GivenUp reason) b' = GivesUp number b reason b'

-- one ruling, and how long the list is before and after
pub record IsDecision (number : ℕ) (b : Books) (d : Decision) (b' : Books) : Type 0 where
  pub before : d.before ≡ length b.list
  pub after : d.after ≡ length b'.list
  pub changes : Changes number b d.worker d.ruling b'

-- ---- packets of operations

-- a node of this number with these operations saved, and nothing else: what may be taken depends on
-- no more
abbrev pub page : ℕ → SetBy op_cmp → NodeState
page number saved =
    record {
      number = number;
      boot = 0;
      saved = saved;
      published = [];
      views = [];
      state = Running Nothing;
      procs = 0;
      benches = [];
    }

-- why nothing of a packet is taken
pub data Declines (number : ℕ) (b : Books) (ops : SetBy op_cmp) (answer : Result ℕ Fault)
    : Type 0 where
  no_room : answer ≡ Err (faults.Refused refusals.Memory) → HasNew (page number b.saved) ops
      → Declines number b ops answer
  impostor : (op : Op) → answer ≡ Err (faults.Impostor op.name)
      → IsFirstRefused (page number b.saved) ops op
      → IsImpostor (page number b.saved) op → Declines number b ops answer
  clash : (op : Op) → answer ≡ Err (faults.Clash op.name)
      → IsFirstRefused (page number b.saved) ops op
      → IsClash (page number b.saved) op → Declines number b ops answer
  nothing_new : answer ≡ Ok 0 → CanTake (page number b.saved) ops
      → ((op : Op) → In ops op → In b.saved op) → Declines number b ops answer
  busy : (op : Op) (due : Batch) → answer ≡ Err (faults.Refused refusals.Busy)
      → CanTake (page number b.saved) ops → In ops op → ¬ In b.saved op → b.due ≡ Some due
      → Declines number b ops answer

-- what is new of a packet is saved
pub record IsNew (number : ℕ) (b : Books) (ops new : SetBy op_cmp) : Type 0 where
  pub idle : b.due ≡ None
  pub may : CanTake (page number b.saved) ops
  pub lacking : AreLacking (page number b.saved) ops new
  pub some : 0 < set.len new

-- it is published too
pub record TakesAll (number : ℕ) (b : Books) (p : Delivery) (b' : Books) : Type 0 where
  pub ops : SetBy op_cmp
  pub are_new : IsNew number b (set.of_list p.ops) ops
  pub answer : p.answer ≡ Ok (set.len ops)
  pub new : b' ≡ record {
    saved = with_ops b.saved (set.members ops);
    list = b.list ++ set.members ops;
    due = None;
  }

-- it is due, since there was no room to publish it
pub record TakesLate (number : ℕ) (b : Books) (p : Delivery) (b' : Books) : Type 0 where
  pub ops : SetBy op_cmp
  pub are_new : IsNew number b (set.of_list p.ops) ops
  pub answer : p.answer ≡ Err (faults.Refused refusals.Memory)
  pub new : b' ≡ record {
    saved = with_ops b.saved (set.members ops);
    list = b.list;
    due = Some (Received ops);
  }

-- nothing is taken
pub record TakesNone (number : ℕ) (b : Books) (p : Delivery) (b' : Books) : Type 0 where
  pub why : Declines number b (set.of_list p.ops) p.answer
  pub same : b' ≡ b

-- what became of a packet, by the verdict
abbrev pub TakesBy : ℕ → Books → Delivery → Verdict → Books → Type 0
TakesBy number b p Taken b' = TakesAll number b p b'
TakesBy number b p TakenLate b' = TakesLate number b p b'
TakesBy number b p Declined b' = TakesNone number b p b'

-- one packet, and how long the list is before and after
pub record IsDelivery (number : ℕ) (b : Books) (p : Delivery) (b' : Books) : Type 0 where
  pub before : p.before ≡ length b.list
  pub after : p.after ≡ length b'.list
  pub takes : TakesBy number b p p.verdict b'

-- ---- the record

-- one deed
abbrev pub IsDeed : ℕ → Books → Deed → Books → Type 0
IsDeed number b (Decided d) b' = IsDecision number b d b'
IsDeed number b (Delivered p) b' = IsDelivery number b p b'

-- the deeds that lead from one state of the books to another
abbrev pub Recorded : ℕ → Books → List Deed → Books → Type 0
Recorded number b [] b' = b' ≡ b
Recorded number b (d ∷ ds) b' =
    (mid : Books) × IsDeed number b d mid × Recorded number mid ds b'

-- ---- the node that the books are of

-- where the node is, by what is due
abbrev pub IsAt : State → Option Batch → Type 0
IsAt s None = s ≡ Running Nothing
IsAt s (Some batch) = s ≡ Running (Due batch)

-- the node has the books' operations, and what is due in them is due
pub record Holds (n : NodeState) (b : Books) : Type 0 where
  pub saved : n.saved ≡ b.saved
  pub list : n.published ≡ b.list
  pub state : IsAt n.state b.due
