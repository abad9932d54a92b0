-- What the calls of a node leave of it.
use Rattle.std.proofs.Common.{◌≡◌, ◌≢◌, ◌⊎◌, ◌∙◌, ◌++◌, ℕ, Some, None, Ok, Err, Result, List}
use Rattle.std.proofs.Common.{true, false, refl, sym, ap, subst}
use Rattle.std.specs.Result.{is_err}
use Rattle.fl_labels.specs.declared.name.Name.{Name}
use Rattle.fl_ops.specs.declared.op.Body.{Body}
use Rattle.fl_ops.specs.declared.op.Op.{Op}
use Rattle.fl_store.specs.Kept.{Kept, with_batch}
use Rattle.fl_system.specs.declared.answer.Fault.{Fault}
use Rattle.fl_system.specs.declared.answer.Fault.TheVariants.{KeeperFailed}
use Rattle.fl_system.specs.declared.state.Batch.{Batch}
use Rattle.fl_system.specs.declared.state.Pending.TheVariants.{Due, Nothing, Unsaved}
use Rattle.fl_system.specs.declared.state.State.{State}
use Rattle.fl_system.specs.declared.state.State.TheVariants.{Running}
use Rattle.fl_system.specs.State.{NodeState, ops_of}
use Rattle.fl_system.specs.Waiting.{IsTaken, NoneUnsaved}
use Rattle.fl_system.specs.Naming.{IsLast, IsNextAfter}
use Rattle.fl_system.specs.Begins.{Begins, order, pending_with}
use Rattle.fl_system.specs.Saves.{Saves, stored, halted}
use Rattle.fl_system.specs.Publishes.{Publishes, Cancels, cancelled_with}
use Rattle.fl_registrar.specs.declared.saving.Saving.TheVariants as savings
use Rattle.fl_registrar.specs.Listing.{HasListed, Owes}
use Rattle.fl_registrar.specs.parts.Saving.{BecomesOf}

one_due : (s : State) (a b : Batch) → s ≡ Running (Due a) → s ≡ Running (Due b) → a ≡ b
one_due s a b is there = cc

-- what is not published stays as it is
pub not_published : {n n' : NodeState} (result : Result ℕ Fault) → is_err result ≡ true
    → Publishes n result n' → n' ≡ n
not_published (Ok count) e h = absurd (cc)
not_published (Err fault) e (Publishes.no_room is) = refl
not_published (Err fault) e (Publishes.none why) = refl

-- what was due is published
pub published_as : (n n' : NodeState) (result : Result ℕ Fault) (list ops : List Op)
    → is_err result ≡ false → Publishes n result n' → Owes n list ops → HasListed n' list ops
published_as n n' (Ok count) list ops e (Publishes.published {batch = other} there) owes =
    let same : other ≡ owes.batch = one_due n.state other owes.batch there owes.state in
    record {
      state = refl;
      published = (λ i. owes.published i ++ ops_of (same i)) ∙ ap (λ (l : List Op). list ++ l)
          owes.its;
    }
published_as n n' (Err fault) list ops e h owes = absurd (cc)

-- ---- what is to be saved

none_unsaved : (n : NodeState) (batch : Batch) (fault : Fault) → n.state ≡ Running (Unsaved batch)
    → NoneUnsaved n.state fault → ⊥
none_unsaved n batch fault is why = subst (λ s. NoneUnsaved s fault) is why

one_batch : (n : NodeState) (batch other : Batch) → n.state ≡ Running (Unsaved batch)
    → n.state ≡ Running (Unsaved other) → other ≡ batch
one_batch n batch other is there = cc

pub saved_as : (n n' : NodeState) (k k' : Kept) (batch : Batch) → n.state ≡ Running (Unsaved batch)
    → Saves n k (Ok tt) n' k' → BecomesOf n batch k savings.Saved n' k'
saved_as n n' k k' batch is (Saves.saved {batch = other} there) =
    let same = one_batch n batch other is there in
    (ap (stored n) same, ap (λ (b : Batch). with_batch k (ops_of b)) same)

pub failed_as : (n n' : NodeState) (k k' : Kept) (batch : Batch)
    → n.state ≡ Running (Unsaved batch) → Saves n k (Err KeeperFailed) n' k'
    → BecomesOf n batch k savings.Broken n' k'
failed_as n n' k k' batch is (Saves.failed {batch = other} {left = left} there kept) =
    let same = one_batch n batch other is there in (
      ap (λ (b : Batch). halted n (Some b)) same,
      subst (λ (b : Batch). (left ≡ k) ⊎ (left ≡ with_batch k (ops_of b))) same kept,
    )
failed_as n n' k k' batch is (Saves.none why) = absurd (none_unsaved n batch KeeperFailed is why)

-- what could not be saved leaves what is saved
pub err_saved : (n n' : NodeState) (k k' : Kept) (fault : Fault) → Saves n k (Err fault) n' k'
    → n'.saved ≡ n.saved
err_saved n n' k k' fault (Saves.no_room there) = refl
err_saved n n' k k' fault (Saves.failed there kept) = refl
err_saved n n' k k' fault (Saves.none why) = refl

-- neither saving nor giving up changes how often the node was opened
pub saves_boot : (n n' : NodeState) (k k' : Kept) (result : Result (Unit {0}) Fault)
    → Saves n k result n' k' → n'.boot ≡ n.boot
saves_boot n n' k k' result (Saves.saved there) = refl
saves_boot n n' k k' result (Saves.no_room there) = refl
saves_boot n n' k k' result (Saves.failed there kept) = refl
saves_boot n n' k k' result (Saves.none why) = refl

pub cancels_boot : (n n' : NodeState) (result : Result (Unit {0}) Fault) → Cancels n result n'
    → n'.boot ≡ n.boot
cancels_boot n n' result (Cancels.given_up there) = refl
cancels_boot n n' result (Cancels.none why) = refl

pub cancelled_as : (n n' : NodeState) (batch : Batch) (result : Result (Unit {0}) Fault)
    → n.state ≡ Running (Unsaved batch) → Cancels n result n' → n' ≡ cancelled_with n batch
cancelled_as n n' batch result is (Cancels.given_up {batch = other} there) =
    ap (cancelled_with n) (one_batch n batch other is there)
cancelled_as n n' batch result is (Cancels.none {fault = fault} why) =
    absurd (none_unsaved n batch fault is why)

pub given_up_as : (n mid n' : NodeState) (k k' : Kept) (batch : Batch) (fault : Fault)
    (result : Result (Unit {0}) Fault) → fault ≢ KeeperFailed → n.state ≡ Running (Unsaved batch)
    → Saves n k (Err fault) mid k' → Cancels mid result n'
    → BecomesOf n batch k savings.NoMemory n' k'
given_up_as n mid n' k k' batch fault result other is (Saves.no_room there) cancels =
    (cancelled_as n n' batch result is cancels, refl)
given_up_as n mid n' k k' batch fault result other is (Saves.failed there kept) cancels =
    absurd (other refl)
given_up_as n mid n' k k' batch fault result other is (Saves.none why) cancels =
    absurd (none_unsaved n batch fault is why)

-- and saved it is, by the node's own step
pub saves_again : (n n' : NodeState) (k k' : Kept) (batch : Batch)
    → n.state ≡ Running (Unsaved batch) → BecomesOf n batch k savings.Saved n' k'
    → Saves n k (Ok tt) n' k'
saves_again n n' k k' batch is h =
    subst (λ (m : NodeState). Saves n k (Ok tt) m k') (sym h.0)
    (subst (λ (j : Kept). Saves n k (Ok tt) (stored n batch) j) (sym h.1) (Saves.saved is))

-- ---- what is begun

pub record Begun (n : NodeState) (body : Body) (name : Name) (mid : NodeState) : Type 0 where
  pub idle : n.state ≡ Running Nothing
  pub next : IsNextAfter n.saved n.number name
  pub is : mid ≡ pending_with n (order name body None None)

pub begun_as : (n mid : NodeState) (body : Body) (name : Name)
    → Begins n body None None (Ok name) mid → Begun n body name mid
begun_as n mid body name (Begins.begins idle next) = record { idle = idle; next = next; is = refl }

pub not_begun : (n mid : NodeState) (body : Body) (fault : Fault)
    → Begins n body None None (Err fault) mid → mid ≡ n
not_begun n mid body fault (Begins.taken why) = refl
not_begun n mid body fault (Begins.spent idle last) = refl

-- where nothing is on its way, only for want of names
pub spent_as : (n mid : NodeState) (body : Body) (fault : Fault) → n.state ≡ Running Nothing
    → Begins n body None None (Err fault) mid → IsLast n.saved n.number 4294967295
spent_as n mid body fault idle (Begins.taken why) =
    absurd (subst (λ s. IsTaken s fault) idle why)
spent_as n mid body fault idle (Begins.spent same last) = last

-- what was begun and is given up leaves the node
pub order_back : (n : NodeState) (name : Name) (body : Body) → n.state ≡ Running Nothing
    → cancelled_with (pending_with n (order name body None None)) (order name body None None) ≡ n
order_back n name body idle = ap (λ (s : State). record n { state = s }) (sym idle)
