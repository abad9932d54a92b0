-- What is pending at a node is saved, published or given up, and a node is restarted, in one way.
use Rattle.std.proofs.Common.{◌≡◌, ◌≢◌, ◌⊎◌, ◌<◌, ◌+◌, ◌∙◌, inl, inr, ℕ, Bool, true, false, refl, sym, ap, subst, arith, length, Option, None, Result, Ok, Err}
use Rattle.fl_jobs.specs.declared.answer.Refusal.TheVariants.{Memory, NamesSpent}
use Rattle.fl_store.specs.Kept.{Kept, with_batch, raised}
use Rattle.fl_system.specs.declared.answer.Fault.{Fault}
use Rattle.fl_system.specs.declared.answer.Fault.TheVariants.{Refused, KeeperFailed, WrongNode}
use Rattle.fl_system.specs.declared.state.Batch.{Batch}
use Rattle.fl_system.specs.declared.state.Pending.TheVariants.{Nothing, Unsaved, Due}
use Rattle.fl_system.specs.declared.state.State.{State}
use Rattle.fl_system.specs.declared.state.State.TheVariants.{Running, Stopped}
use Rattle.fl_system.specs.State.{NodeState, ops_of, kept_of}
use Rattle.fl_system.specs.Waiting.{NoneUnsaved, NoneDue}
use Rattle.fl_system.specs.Saves.{Saves, stored, halted}
use Rattle.fl_system.specs.Publishes.{Publishes, Cancels, published_with, cancelled_with, list_with}
use Rattle.fl_system.specs.Openings.{Opens, OpensOwn, OpensAgain, Restarts, FailsToOpen, IsOwn, opened}
use Rattle.fl_one_laws.specs.Ample.{IsLeft}

-- ---- why nothing is done

one_unsaved : (state : State) (f g : Fault) → NoneUnsaved state f → NoneUnsaved state g → f ≡ g
one_unsaved (Running Nothing) f g h k = h ∙ sym k
one_unsaved (Running (Unsaved batch)) f g h k = absurd h
one_unsaved (Running (Due batch)) f g h k = h ∙ sym k
one_unsaved (Stopped doubt) f g h k = h ∙ sym k

one_due : (state : State) (f g : Fault) → NoneDue state f → NoneDue state g → f ≡ g
one_due (Running Nothing) f g h k = h ∙ sym k
one_due (Running (Unsaved batch)) f g h k = h ∙ sym k
one_due (Running (Due batch)) f g h k = absurd h
one_due (Stopped doubt) f g h k = h ∙ sym k

unsaved : {state : State} {batch : Batch} (f : Fault) → state ≡ Running (Unsaved batch) → NoneUnsaved state f → ⊥
unsaved f e h = subst (λ s. NoneUnsaved s f) e h

due : {state : State} {batch : Batch} (f : Fault) → state ≡ Running (Due batch) → NoneDue state f → ⊥
due f e h = subst (λ s. NoneDue s f) e h

same_unsaved : {state : State} {a b : Batch} → state ≡ Running (Unsaved a) → state ≡ Running (Unsaved b) → a ≡ b
same_unsaved e f = cc

same_due : {state : State} {a b : Batch} → state ≡ Running (Due a) → state ≡ Running (Due b) → a ≡ b
same_due e f = cc

-- ---- the calls

module _ {n : NodeState} {k : Kept} where
  pub one_save : {r s : Result (Unit {0}) Fault} {a b : NodeState} {x y : Kept} → Saves n k r a x → Saves n k s b y
      → r ≢ Err (Refused Memory) → r ≢ Err KeeperFailed → s ≢ Err (Refused Memory) → s ≢ Err KeeperFailed
      → (r ≡ s) × (a ≡ b) × (x ≡ y)
  one_save (Saves.saved e) (Saves.saved f) p q t u =
      let same = same_unsaved e f in
      (refl, ap (stored n) same, ap (λ batch. with_batch k (ops_of batch)) same)
  one_save (Saves.saved e) (Saves.none {fault} why) p q t u = absurd (unsaved fault e why)
  one_save (Saves.none {fault} why) (Saves.saved e) p q t u = absurd (unsaved fault e why)
  one_save (Saves.none {fault} why) (Saves.none {fault = other} because) p q t u =
      (ap Err (one_unsaved n.state fault other why because), refl, refl)
  one_save (Saves.no_room e) h p q t u = absurd (p refl)
  one_save (Saves.failed e left) h p q t u = absurd (q refl)
  one_save (Saves.saved e) (Saves.no_room f) p q t u = absurd (t refl)
  one_save (Saves.saved e) (Saves.failed f left) p q t u = absurd (u refl)
  one_save (Saves.none why) (Saves.no_room f) p q t u = absurd (t refl)
  one_save (Saves.none why) (Saves.failed f left) p q t u = absurd (u refl)

  -- a saving is refused for want of memory, or by a keeper that failed
  refused_save : {batch : Batch} {r : Result (Unit {0}) Fault} {a : NodeState} {x : Kept} (fault : Fault)
      → n.state ≡ Running (Unsaved batch) → Saves n k r a x → r ≡ Err fault
      → (fault ≡ Refused Memory) ⊎ (fault ≡ KeeperFailed)
  refused_save fault e (Saves.saved f) is = absurd (cc)
  refused_save fault e (Saves.no_room f) is = inl (cc)
  refused_save fault e (Saves.failed f left) is = inr (cc)
  refused_save fault e (Saves.none {fault = other} why) is = absurd (unsaved other e why)

module _ {n : NodeState} where
  pub one_publish : {r s : Result ℕ Fault} {a b : NodeState} → Publishes n r a → Publishes n s b
      → r ≢ Err (Refused Memory) → s ≢ Err (Refused Memory) → (r ≡ s) × (a ≡ b)
  one_publish (Publishes.published e) (Publishes.published f) p q =
      let same = same_due e f in
      (ap (λ batch. Ok (length (list_with n batch))) same, ap (published_with n) same)
  one_publish (Publishes.published e) (Publishes.none {fault} why) p q = absurd (due fault e why)
  one_publish (Publishes.none {fault} why) (Publishes.published e) p q = absurd (due fault e why)
  one_publish (Publishes.none {fault} why) (Publishes.none {fault = other} because) p q =
      (ap Err (one_due n.state fault other why because), refl)
  one_publish (Publishes.no_room e) h p q = absurd (p refl)
  one_publish (Publishes.published e) (Publishes.no_room f) p q = absurd (q refl)
  one_publish (Publishes.none why) (Publishes.no_room f) p q = absurd (q refl)

  pub one_cancel : {r s : Result (Unit {0}) Fault} {a b : NodeState} → Cancels n r a → Cancels n s b
      → (r ≡ s) × (a ≡ b)
  one_cancel (Cancels.given_up e) (Cancels.given_up f) = (refl, ap (cancelled_with n) (same_unsaved e f))
  one_cancel (Cancels.given_up e) (Cancels.none {fault} why) = absurd (unsaved fault e why)
  one_cancel (Cancels.none {fault} why) (Cancels.given_up e) = absurd (unsaved fault e why)
  one_cancel (Cancels.none {fault} why) (Cancels.none {fault = other} because) =
      (ap Err (one_unsaved n.state fault other why because), refl)

-- ---- openings

-- the result is no refusal for memory, and no keeper failed
pub record IsFed (r : Result ℕ Fault) : Type 0 where
  pub memory : r ≢ Err (Refused Memory)
  pub keeper : r ≢ Err KeeperFailed

-- what comes of an opening of the node again then
data Opening (n : NodeState) (doubt : Option Batch) (k : Kept) : Result ℕ Fault → NodeState → Kept → Type 0 where
  opens : IsOwn (kept_of n) doubt k → k.boot < 4294967295
      → Opening n doubt k (Ok (k.boot + 1)) (opened (length n.views) k) (raised k)
  spent : IsOwn (kept_of n) doubt k → k.boot ≡ 4294967295
      → Opening n doubt k (Err (Refused NamesSpent)) (halted n doubt) k
  foreign : {left : Kept} → ¬ IsOwn (kept_of n) doubt k → IsLeft k left
      → Opening n doubt k (Err WrongNode) (halted n doubt) left

fails_so : {n : NodeState} {doubt : Option Batch} {k left : Kept} {fault : Fault}
    → FailsToOpen (IsOwn (kept_of n) doubt) k fault → IsLeft k left → IsFed (Err fault)
    → Opening n doubt k (Err fault) (halted n doubt) left
fails_so FailsToOpen.no_room left o = absurd (o.memory refl)
fails_so FailsToOpen.keeper_failed left o = absurd (o.keeper refl)
fails_so (FailsToOpen.other not_own) left o = Opening.foreign not_own left

stays_so : {n : NodeState} {doubt : Option Batch} {k left : Kept} {fault : Fault}
    → OpensOwn n doubt k (Err fault) left → IsFed (Err fault) → Opening n doubt k (Err fault) (halted n doubt) left
stays_so (Opens.spent own all) o = Opening.spent own all
stays_so (Opens.refused why left) o = fails_so why left o

opening_of : {n : NodeState} {doubt : Option Batch} {k : Kept} {r : Result ℕ Fault} {a : NodeState} {x : Kept}
    → OpensAgain n doubt k r a x → IsFed r → Opening n doubt k r a x
opening_of (OpensAgain.opens (Opens.opens own left)) o = Opening.opens own left
opening_of (OpensAgain.stays opening) o = stays_so opening o

-- Two openings have one result and leave one node. What they leave to the next may differ in its boot, where they are refused as
-- another node's.
pub record AreOne (r s : Result ℕ Fault) (a b : NodeState) (x y : Kept) : Type 0 where
  pub says : r ≡ s
  pub node : a ≡ b
  pub settled : r ≢ Err WrongNode → x ≡ y
  pub kept : (k : Kept) × IsLeft k x × IsLeft k y

module _ {n : NodeState} {doubt : Option Batch} {k : Kept} where
  same_opening : {r s : Result ℕ Fault} {a b : NodeState} {x y : Kept} → Opening n doubt k r a x
      → Opening n doubt k s b y → AreOne r s a b x y
  same_opening (Opening.opens own left) (Opening.opens its more) =
      record { says = refl; node = refl; settled = λ _. refl; kept = (raised k, inl refl, inl refl) }
  same_opening (Opening.spent own all) (Opening.spent its last) =
      record { says = refl; node = refl; settled = λ _. refl; kept = (k, inl refl, inl refl) }
  same_opening (Opening.foreign not_own left) (Opening.foreign nor rest) =
      record { says = refl; node = refl; settled = λ settled. absurd (settled refl); kept = (k, left, rest) }
  same_opening (Opening.opens own left) (Opening.spent its all) = absurd (omega (arith, left, all))
  same_opening (Opening.spent own all) (Opening.opens its left) = absurd (omega (arith, left, all))
  same_opening (Opening.opens own left) (Opening.foreign not_own rest) = absurd (not_own own)
  same_opening (Opening.foreign not_own rest) (Opening.opens own left) = absurd (not_own own)
  same_opening (Opening.spent own all) (Opening.foreign not_own rest) = absurd (not_own own)
  same_opening (Opening.foreign not_own rest) (Opening.spent own all) = absurd (not_own own)

pub one_again : {n : NodeState} {doubt : Option Batch} {k : Kept} {r s : Result ℕ Fault} {a b : NodeState}
    {x y : Kept} → OpensAgain n doubt k r a x → OpensAgain n doubt k s b y → IsFed r → IsFed s → AreOne r s a b x y
one_again h j o p = same_opening (opening_of h o) (opening_of j p)

-- what is restarted, and over what
abbrev RestartsAs : NodeState → Kept → State → Bool → Result ℕ Fault → NodeState → Kept → Type 0
RestartsAs n k (Running Nothing) keeps r a x = Opening n None k r a x
RestartsAs n k (Running (Due batch)) keeps r a x = Opening n None k r a x
RestartsAs n k (Running (Unsaved batch)) false r a x = Opening n None k r a x
RestartsAs n k (Running (Unsaved batch)) true r a x =
    Opening (stored n batch) None (with_batch k (ops_of batch)) r a x
RestartsAs n k (Stopped doubt) keeps r a x = Opening n doubt k r a x

one_restarting : (n : NodeState) (k : Kept) (state : State) (keeps : Bool) (r s : Result ℕ Fault) (a b : NodeState)
    (x y : Kept) → RestartsAs n k state keeps r a x → RestartsAs n k state keeps s b y → AreOne r s a b x y
one_restarting n k (Running Nothing) keeps r s a b x y h j = same_opening h j
one_restarting n k (Running (Due batch)) keeps r s a b x y h j = same_opening h j
one_restarting n k (Running (Unsaved batch)) false r s a b x y h j = same_opening h j
one_restarting n k (Running (Unsaved batch)) true r s a b x y h j = same_opening h j
one_restarting n k (Stopped doubt) keeps r s a b x y h j = same_opening h j

module _ (n : NodeState) (k : Kept) (r : Result ℕ Fault) (a : NodeState) (x : Kept) where
  -- of what state it is
  of_state : (keeps : Bool) (state : State) → n.state ≡ state → RestartsAs n k state keeps r a x
      → RestartsAs n k n.state keeps r a x
  of_state keeps state e h = subst (λ s. RestartsAs n k s keeps r a x) (sym e) h

  of_keeps : (keeps b : Bool) (state : State) → keeps ≡ b → n.state ≡ state → RestartsAs n k state b r a x
      → RestartsAs n k n.state keeps r a x
  of_keeps keeps b state f e h =
      of_state keeps state e (subst (λ c. RestartsAs n k state c r a x) (sym f) h)

restarts_as : {n : NodeState} {k : Kept} (keeps : Bool) {r : Result ℕ Fault} {a : NodeState} {x : Kept}
    → Restarts n k keeps r a x → IsFed r → RestartsAs n k n.state keeps r a x
restarts_as keeps (Restarts.not_saved {fault} on e saves) o = elim (refused_save fault e saves refl) [
  | inl is ↦ absurd (o.memory (ap Err is))
  | inr is ↦ absurd (o.keeper (ap Err is))
]
restarts_as {n} {k} keeps {r} {a} {x} (Restarts.saved {batch} on e again) o =
    of_keeps n k r a x keeps true (Running (Unsaved batch)) on e (opening_of again o)
restarts_as {n} {k} keeps {r} {a} {x} (Restarts.lost {batch} off e again) o =
    of_keeps n k r a x keeps false (Running (Unsaved batch)) off e (opening_of again o)
restarts_as {n} {k} keeps {r} {a} {x} (Restarts.idle e again) o =
    of_state n k r a x keeps (Running Nothing) e (opening_of again o)
restarts_as {n} {k} keeps {r} {a} {x} (Restarts.due {batch} e again) o =
    of_state n k r a x keeps (Running (Due batch)) e (opening_of again o)
restarts_as {n} {k} keeps {r} {a} {x} (Restarts.stopped {doubt} e again) o =
    of_state n k r a x keeps (Stopped doubt) e (opening_of again o)

pub one_restart : {n : NodeState} {k : Kept} (keeps : Bool) {r s : Result ℕ Fault} {a b : NodeState} {x y : Kept}
    → Restarts n k keeps r a x → Restarts n k keeps s b y → IsFed r → IsFed s → AreOne r s a b x y
one_restart {n} {k} keeps {r} {s} {a} {b} {x} {y} h j o p =
    one_restarting n k n.state keeps r s a b x y (restarts_as keeps h o) (restarts_as keeps j p)
