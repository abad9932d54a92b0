-- From the calls of the registrar's node to the deeds of the record.
use Rattle.std.proofs.Common.{◌≡◌, ◌<◌, ℕ, List, [], ◌∷◌, ◌++◌, Option, Some, None, Ok, Err, refl}
use Rattle.std.proofs.Common.{sym, ap, ◌∙◌, subst, arith}
use Rattle.fl_labels.specs.SetBy as set
use Rattle.fl_labels.specs.SetBy.{SetBy, In}
use Rattle.fl_labels.specs.declared.name.Name.{Name}
use Rattle.fl_labels.specs.declared.pid.Pid.{Pid}
use Rattle.fl_ops.specs.OpOrder.{op_cmp}
use Rattle.fl_ops.specs.declared.op.Op.{Op}
use Rattle.fl_ops.specs.declared.op.Body.{Body}
use Rattle.fl_jobs.specs.declared.answer.Refusal.{Refusal}
use Rattle.fl_jobs.specs.declared.answer.Refusal.TheVariants as refusals
use Rattle.fl_store.specs.Kept.{Kept, with_ops}
use Rattle.fl_system.specs.declared.answer.Fault.{Fault}
use Rattle.fl_system.specs.declared.answer.Fault.TheVariants as faults
use Rattle.fl_system.specs.declared.state.Batch.{Batch}
use Rattle.fl_system.specs.declared.state.Batch.TheVariants.{Ordered}
use Rattle.fl_system.specs.declared.state.Pending.TheVariants.{Nothing, Unsaved, Due}
use Rattle.fl_system.specs.declared.state.State.{State}
use Rattle.fl_system.specs.declared.state.State.TheVariants.{Running, Stopped}
use Rattle.fl_system.specs.State.{NodeState, ops_of}
use Rattle.fl_system.specs.Waiting.{NotRunning, IsTaken as IsTakenBy}
use Rattle.fl_system.specs.Naming.{IsLast, IsNextAfter}
use Rattle.fl_system.specs.Begins.{Begins}
use Rattle.fl_system.specs.Receives.{Receives, IsImpostor, IsClash, IsFirstRefused, CanTake}
use Rattle.fl_system.specs.Receives.{AreLacking, HasNew}
use Rattle.fl_system.specs.Saves.{Saves}
use Rattle.fl_crew_model.specs.declared.record.Reason.{Reason}
use Rattle.fl_crew_model.specs.declared.record.Reason.TheVariants.{Busy, NamesSpent}
use Rattle.fl_crew_model.specs.Reasons.{refusal_of}
use Rattle.fl_crew_model.specs.Books.{Books, page, GivesUp, Declines, IsNew}
use Rattle.fl_crew_model.specs.Registering.{Reflects, IsRegistrar, IsOrdered, IsTaken}
use Rattle.fl_crew_model.proofs.Deliveries.{impostor_out, clash_out, can_out, first_out}

-- ---- what is saved

unsaved_in : State → List Op
unsaved_in (Running (Unsaved batch)) = ops_of batch
unsaved_in other = []

saved_by : {n : NodeState} {k : Kept} {n' : NodeState} {k' : Kept} → Saves n k (Ok tt) n' k'
    → n'.saved ≡ with_ops n.saved (unsaved_in n.state)
unfolding unsaved_in
saved_by {n} (Saves.saved {batch} is) = ap (λ s. with_ops n.saved (unsaved_in s)) (sym is)

abbrev as_books : SetBy op_cmp → List Op → Option Batch → Books
as_books saved list due = record { saved = saved; list = list; due = due }

-- ---- the state of the node, and of the books

idle_due : (due : Option Batch) (s : State) → s ≡ Running Nothing → Reflects s due → due ≡ None
idle_due due s is h = subst (λ (x : State). Reflects x due) is h

module _ (number : ℕ) (r : NodeState) (b : Books) (registrar : IsRegistrar number r b) where
  idle_books : r.state ≡ Running Nothing → b.due ≡ None
  idle_books is = idle_due b.due r.state is registrar.reflects

  same_page : page r.number r.saved ≡ page number b.saved
  same_page = ap (λ k. page k r.saved) registrar.numbered ∙ ap (λ s. page number s) registrar.saved

  -- ---- orders

  named_in : (name : Name) → IsNextAfter r.saved r.number name → IsNextAfter b.saved number name
  named_in name h =
      subst (λ (k : ℕ). IsNextAfter b.saved k name) registrar.numbered
      (subst (λ (s : SetBy op_cmp). IsNextAfter s r.number name) registrar.saved h)

  ordered_as : (op : Op) (saved : SetBy op_cmp) → r.state ≡ Running Nothing
      → IsNextAfter r.saved r.number op.name → saved ≡ with_ops r.saved (op ∷ [])
      → IsOrdered number b op saved
  ordered_as op saved idle next is =
      let named = named_in op.name next in
      let same : saved ≡ with_ops b.saved (op ∷ []) =
      is ∙ ap (λ s. with_ops s (op ∷ [])) registrar.saved in
      record {
        made = record {
          idle = idle_books idle;
          named = named;
          new = ap (λ (s : SetBy op_cmp). as_books s (b.list ++ op ∷ []) None) same;
        };
        late = λ worker pid. record {
          idle = idle_books idle;
          named = named;
          new =
              ap (λ (s : SetBy op_cmp). as_books s b.list
              (Some (Ordered op (Some pid) (Some worker)))) same;
        };
      }

  pub begun_of : (body : Body) (maker : Option Pid) (desk : Option ℕ) (name : Name)
      (mid after : NodeState) (k k' : Kept) → Begins r body maker desk (Ok name) mid
      → Saves mid k (Ok tt) after k'
      → IsOrdered number b (record { name = name; body = body }) after.saved
  unfolding unsaved_in
  begun_of body maker desk name mid after k k' (Begins.begins idle next) saves =
      ordered_as (record { name = name; body = body }) after.saved idle next (saved_by saves)

  -- the reason of a refusal, where the books stay as they are
  pub record IsRefused (refusal : Refusal) : Type 0 where
    pub reason : Reason
    pub told : refusal ≡ refusal_of reason
    pub why : GivesUp number b reason b

  taken_why : (refusal : Refusal) (s : State) → IsTakenBy s (faults.Refused refusal)
      → Reflects s b.due → IsRefused refusal
  taken_why refusal (Running Nothing) h due = absurd h
  taken_why refusal (Running (Unsaved batch)) h due = absurd due
  taken_why refusal (Running (Due batch)) h due =
      record {
        reason = Busy;
        told = (let is : refusal ≡ refusals.Busy = cc in is);
        why = record { due = due.0; is_due = due.1; same = refl };
      }
  taken_why refusal (Stopped doubt) h due = absurd due

  pub refused_of : (body : Body) (maker : Option Pid) (desk : Option ℕ) (refusal : Refusal)
      (after : NodeState) → Begins r body maker desk (Err (faults.Refused refusal)) after
      → (reason : Reason) × (refusal ≡ refusal_of reason) × GivesUp number b reason b × (after ≡ r)
  refused_of body maker desk refusal after (Begins.taken why) =
      let it = taken_why refusal r.state why registrar.reflects in
      (it.reason, it.told, it.why, refl)
  refused_of body maker desk refusal after (Begins.spent idle last) = (
    NamesSpent,
    refl,
    record {
      idle = idle_books idle;
      is_last =
          subst (λ (k : ℕ). IsLast b.saved k 4294967295) registrar.numbered
          (subst (λ (s : SetBy op_cmp). IsLast s r.number 4294967295) registrar.saved last);
      same = refl;
    },
    refl,
  )

  -- ---- packets

  can_books : (ops : SetBy op_cmp) → CanTake r ops → CanTake (page number b.saved) ops
  can_books ops h = subst (λ (m : NodeState). CanTake m ops) same_page (can_out r ops h)

  new_books : (ops new : SetBy op_cmp) → r.state ≡ Running Nothing → CanTake r ops
      → AreLacking r ops new → 0 < set.len new → IsNew number b ops new
  new_books ops new idle may lacking some =
      record {
        idle = idle_books idle;
        may = can_books ops may;
        lacking = subst (λ (m : NodeState). AreLacking m ops new) same_page lacking;
        some = some;
      }

  pub taken_of : (ops : SetBy op_cmp) (count : ℕ) (mid after : NodeState) (k k' : Kept)
      → Receives r ops (Ok count) mid → 0 < count → Saves mid k (Ok tt) after k'
      → IsTaken number b ops count after.saved
  unfolding unsaved_in
  taken_of ops count mid after k k' (Receives.nothing_new on may all) some saves =
      absurd (omega (arith, some))
  taken_of ops count mid after k k' (Receives.receives {new} idle may lacking more) some saves =
      record {
        new = new;
        are_new = new_books ops new idle may lacking more;
        counted = refl;
        all = saved_by saves ∙ ap (λ s. with_ops s (set.members new)) registrar.saved;
      }

  stopped_never : (s : State) (fault : Fault) → NotRunning s fault → Reflects s b.due → ⊥
  stopped_never (Running pending) fault h due = h
  stopped_never (Stopped doubt) fault h due = due

  taken_by : (ops : SetBy op_cmp) (op : Op) (fault : Fault) (s : State) → IsTakenBy s fault
      → Reflects s b.due → CanTake r ops → In ops op → ¬ In r.saved op
      → Declines number b ops (Err fault)
  taken_by ops op fault (Running Nothing) h due may there new = absurd h
  taken_by ops op fault (Running (Unsaved batch)) h due may there new = absurd due
  taken_by ops op fault (Running (Due batch)) h due may there new =
      Declines.busy op due.0 (ap Err h) (can_books ops may) there
      (λ m. new (subst (λ (s : SetBy op_cmp). In s op) (sym registrar.saved) m)) due.1
  taken_by ops op fault (Stopped doubt) h due may there new = absurd due

  some_in_books : (ops : SetBy op_cmp) → HasNew r ops → HasNew (page number b.saved) ops
  some_in_books ops some = record {
    may = can_books ops some.may;
    op = some.op;
    there = some.there;
    new = λ m. some.new (subst (λ (s : SetBy op_cmp). In s some.op) (sym registrar.saved) m);
  }

  pub declined_of : (ops : SetBy op_cmp) (fault : Fault) (after : NodeState)
      → Receives r ops (Err fault) after → Declines number b ops (Err fault) × (after ≡ r)
  declined_of ops fault after (Receives.stopped why) =
      absurd (stopped_never r.state fault why registrar.reflects)
  declined_of ops fault after (Receives.no_room on some) =
      (Declines.no_room refl (some_in_books ops some), refl)
  declined_of ops fault after (Receives.impostor {op} on first bad) = (
    Declines.impostor op refl
        (subst (λ (m : NodeState). IsFirstRefused m ops op) same_page (first_out r ops op first))
        (subst (λ (m : NodeState). IsImpostor m op) same_page (impostor_out r op bad)),
    refl,
  )
  declined_of ops fault after (Receives.clash {op} on first bad) = (
    Declines.clash op refl
        (subst (λ (m : NodeState). IsFirstRefused m ops op) same_page (first_out r ops op first))
        (subst (λ (m : NodeState). IsClash m op) same_page (clash_out r op bad)),
    refl,
  )
  declined_of ops fault after (Receives.taken op on may there new why) =
      (taken_by ops op fault r.state why registrar.reflects may there new, refl)

  nothing_by : (ops : SetBy op_cmp) (count : ℕ) (after : NodeState)
      → Receives r ops (Ok count) after → count ≡ 0 → Declines number b ops (Ok 0) × (after ≡ r)
  nothing_by ops count after (Receives.nothing_new on may all) none = (
    Declines.nothing_new refl (can_books ops may)
        (λ o m. subst (λ (s : SetBy op_cmp). In s o) registrar.saved (all o m)),
    refl,
  )
  nothing_by ops count after (Receives.receives idle may lacking some) none =
      absurd (omega (arith, some, none))

  pub nothing_of : (ops : SetBy op_cmp) (after : NodeState) → Receives r ops (Ok 0) after
      → Declines number b ops (Ok 0) × (after ≡ r)
  nothing_of ops after h = nothing_by ops 0 after h refl
