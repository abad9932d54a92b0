-- What a restart finds.
use Rattle.std.proofs.Common.{◌≡◌, ◌+◌, refl, subst, inl, ℕ, Bool, true, false, length, le_refl, Ok, Err, None}
use Rattle.std.specs.declared.option.Option.{Option}
use Rattle.fl_store.specs.Kept.{Kept}
use Rattle.fl_system.specs.declared.answer.Fault.{Fault}
use Rattle.fl_system.specs.declared.answer.Fault.TheVariants.{WrongNode}
use Rattle.fl_system.specs.declared.state.Batch.{Batch}
use Rattle.fl_system.specs.declared.state.Pending.TheVariants.{Nothing, Unsaved, Due}
use Rattle.fl_system.specs.declared.state.State.{State}
use Rattle.fl_system.specs.declared.state.State.TheVariants.{Running, Stopped}
use Rattle.fl_system.specs.State.{NodeState, kept_of}
use Rattle.fl_system.specs.Waiting.{IsRunning, NoneUnsaved}
use Rattle.fl_system.specs.Saves.{Saves, stored}
use Rattle.fl_system.specs.Openings.{Opens, FailsToOpen, IsOwn, OpensAgain, Restarts, opened}

-- what a node saved is its own
pub own_kept : (n : NodeState) (doubt : Option Batch) → IsOwn (kept_of n) doubt (kept_of n)
own_kept n doubt = record { number = refl; boot = le_refl _; saved = inl refl }

module _ (own : Kept → Type 0) (k : Kept) (is_own : own k) where
  fails_other : {fault : Fault} → FailsToOpen own k fault → fault ≡ WrongNode → ⊥
  fails_other FailsToOpen.no_room e = cc
  fails_other FailsToOpen.keeper_failed e = cc
  fails_other (FailsToOpen.other not_own) e = not_own is_own

  pub opens_other : (desks : ℕ) {fault : Fault} {k' : Kept} → Opens desks own k (Err fault) k' → fault ≡ WrongNode → ⊥
  opens_other desks (Opens.spent its all) e = cc
  opens_other desks (Opens.refused why left) e = fails_other why e

again_other : (n : NodeState) (doubt : Option Batch) {fault : Fault} {n' : NodeState} {k' : Kept}
    → OpensAgain n doubt (kept_of n) (Err fault) n' k' → fault ≡ WrongNode → ⊥
again_other n doubt (OpensAgain.stays h) e = opens_other _ _ (own_kept n doubt) _ h e

none_other : (s : State) (fault : Fault) → NoneUnsaved s fault → fault ≡ WrongNode → ⊥
none_other (Running Nothing) fault why e = cc
none_other (Running (Unsaved batch)) fault why e = why
none_other (Running (Due batch)) fault why e = cc
none_other (Stopped doubt) fault why e = cc

pub saves_other : (n : NodeState) (k : Kept) {fault : Fault} {n' : NodeState} {k' : Kept}
    → Saves n k (Err fault) n' k' → fault ≡ WrongNode → ⊥
saves_other n k (Saves.no_room is) e = cc
saves_other n k (Saves.failed is left) e = cc
saves_other n k (Saves.none why) e = none_other _ _ why e

stopped_runs : {s : State} {doubt : Option Batch} → s ≡ Stopped doubt → IsRunning s → ⊥
stopped_runs is running = subst IsRunning is running

pub restarts_other : (n : NodeState) (keeps : Bool) → IsRunning n.state → {fault : Fault} {n' : NodeState} {k' : Kept}
    → Restarts n (kept_of n) keeps (Err fault) n' k' → fault ≡ WrongNode → ⊥
restarts_other n keeps running (Restarts.not_saved kept is s) e = saves_other _ _ s e
restarts_other n keeps running (Restarts.saved kept is h) e = again_other (stored n _) None h e
restarts_other n keeps running (Restarts.lost lost is h) e = again_other n None h e
restarts_other n keeps running (Restarts.idle is h) e = again_other n None h e
restarts_other n keeps running (Restarts.due is h) e = again_other n None h e
restarts_other n keeps running (Restarts.stopped is h) e = absurd (stopped_runs is running)

-- what an opening that is not refused makes
pub record IsOpened (desks : ℕ) (k : Kept) (boot : ℕ) (n' : NodeState) : Type 0 where
  pub node_is : n' ≡ opened desks k
  pub boot_is : boot ≡ k.boot + 1

again_finds : (n : NodeState) (doubt : Option Batch) (k : Kept) {boot : ℕ} {n' : NodeState} {k' : Kept}
    → OpensAgain n doubt k (Ok boot) n' k' → IsOpened (length n.views) k boot n'
again_finds n doubt k (OpensAgain.opens (Opens.opens own left)) = record { node_is = refl; boot_is = refl }

pub restart_loses : (n : NodeState) → IsRunning n.state → {boot : ℕ} {n' : NodeState} {k' : Kept}
    → Restarts n (kept_of n) false (Ok boot) n' k' → IsOpened (length n.views) (kept_of n) boot n'
restart_loses n running (Restarts.saved kept is h) = absurd (cc)
restart_loses n running (Restarts.lost lost is h) = again_finds _ _ _ h
restart_loses n running (Restarts.idle is h) = again_finds _ _ _ h
restart_loses n running (Restarts.due is h) = again_finds _ _ _ h
restart_loses n running (Restarts.stopped is h) = absurd (stopped_runs is running)

same_batch : {s : State} {a b : Batch} → s ≡ Running (Unsaved a) → s ≡ Running (Unsaved b) → a ≡ b
same_batch p q = cc

carried : (n : NodeState) (a b : Batch) → a ≡ b → {boot : ℕ} {n' : NodeState}
    → IsOpened (length n.views) (kept_of (stored n a)) boot n'
    → IsOpened (length n.views) (kept_of (stored n b)) boot n'
carried n a b e {boot} {n'} h = subst (λ c. IsOpened (length n.views) (kept_of (stored n c)) boot n') e h

pub restart_keeps : (n : NodeState) (batch : Batch) → n.state ≡ Running (Unsaved batch)
    → {boot : ℕ} {n' : NodeState} {k' : Kept}
    → Restarts n (kept_of n) true (Ok boot) n' k' → IsOpened (length n.views) (kept_of (stored n batch)) boot n'
restart_keeps n batch pending (Restarts.saved kept is h) =
    carried n _ batch (same_batch is pending) (again_finds _ _ _ h)
restart_keeps n batch pending (Restarts.lost lost is h) = absurd (cc)
restart_keeps n batch pending (Restarts.idle is h) = absurd (cc)
restart_keeps n batch pending (Restarts.due is h) = absurd (cc)
restart_keeps n batch pending (Restarts.stopped is h) = absurd (cc)

pub restart_boots : (n : NodeState) (keeps : Bool) → IsRunning n.state → {boot : ℕ} {n' : NodeState} {k' : Kept}
    → Restarts n (kept_of n) keeps (Ok boot) n' k' → boot ≡ n.boot + 1
restart_boots n keeps running (Restarts.saved kept is h) = (again_finds _ _ _ h).boot_is
restart_boots n keeps running (Restarts.lost lost is h) = (again_finds _ _ _ h).boot_is
restart_boots n keeps running (Restarts.idle is h) = (again_finds _ _ _ h).boot_is
restart_boots n keeps running (Restarts.due is h) = (again_finds _ _ _ h).boot_is
restart_boots n keeps running (Restarts.stopped is h) = absurd (stopped_runs is running)
