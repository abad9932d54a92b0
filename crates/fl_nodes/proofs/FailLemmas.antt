-- Why a call says that a keeper failed, from the node to the nodes.
use Rattle.std.proofs.Common.{◌≡◌, ◌⊎◌, ◌∙◌, inl, inr, ℕ, sym, ap, subst, [], Option, Some, Result, Ok, Err}
use Rattle.std.specs.Prelude.{IfErr, IsTrue}
use Rattle.std.specs.FinMap as map
use Rattle.fl_jobs.specs.declared.answer.Refusal.TheVariants.{Memory}
use Rattle.fl_store.specs.Custody.{Custody}
use Rattle.fl_node.specs.Causes.{KeeperFails}
use Rattle.fl_node.specs.Over.{NodeOver}
use Rattle.fl_system.specs.declared.answer.Fault.{Fault}
use Rattle.fl_system.specs.declared.answer.Fault.TheVariants as faults
use Rattle.fl_system.specs.declared.reply.Reply.{Reply}
use Rattle.fl_system.specs.declared.reply.Reply.TheVariants as reply
use Rattle.fl_nodes.specs.Over.{WorldOver}
use Rattle.fl_nodes.specs.Failing.{FailsAt, IsBrokenAt}
use Rattle.fl_nodes.specs.parts.Joined.{opened_reply}
use Rattle.fl_nodes.proofs.Lifting.{here, over_went}

-- what is refused is refused so
pub same_fault : (fault other : Fault) → reply.Refused fault ≡ reply.Refused other → fault ≡ other
same_fault fault other e = cc

-- no other answer is a refusal
pub no_refusal_done : (fault : Fault) → reply.Done ≡ reply.Refused fault → ⊥
no_refusal_done fault e = cc

pub no_refusal_booted : (boot : ℕ) (fault : Fault) → reply.Booted boot ≡ reply.Refused fault → ⊥
no_refusal_booted boot fault e = cc

pub no_refusal_missing : (fault : Fault) → reply.NoSuch ≡ reply.Refused fault → ⊥
no_refusal_missing fault e = cc

-- where what was opened is refused so, the opening was
pub opening_failed : (outcome : Result ℕ Fault) (r : Reply) (fault : Fault) → r ≡ opened_reply outcome → r ≡ reply.Refused fault
    → outcome ≡ Err fault
opening_failed (Ok boot) r fault is e = absurd (cc)
opening_failed (Err other) r fault is e = cc

module _ {K : Type 0} (custody : Custody K) (old new : WorldOver K) (number : ℕ) (y : NodeOver K)
    (is_new : new ≡ over_went old number y [] []) where
  there : map.get new.nodes number ≡ Some y
  there = subst (λ (w : WorldOver K). map.get w.nodes number ≡ Some y) (sym is_new) (here old.nodes number y)

  pub broken_at : IsTrue (custody.is_broken y.keeper) → IsBrokenAt custody new number
  broken_at is = record { node = y; there = there; broken = is }

  module _ (bad : NodeOver K → Type 0) (x : NodeOver K) (stood : map.get old.nodes number ≡ Some x) where
    pub fails_at : IsTrue (custody.is_broken y.keeper) ⊎ (custody.is_honest y.keeper → bad x)
        → FailsAt custody bad old new number
    fails_at fails = record { was = x; node = y; stood = stood; there = there; fails = fails }

    -- why an opening failed
    pub fails_as : (outcome : Result ℕ Fault) (r : Reply) → r ≡ opened_reply outcome
        → IfErr outcome (KeeperFails (IsTrue (custody.is_broken y.keeper)) (custody.is_honest y.keeper) (bad x))
        → r ≡ reply.Refused faults.KeeperFailed → FailsAt custody bad old new number
    fails_as (Ok boot) r is cause e = absurd (cc)
    fails_as (Err fault) r is cause e = fails_at (cause (same_fault fault faults.KeeperFailed (cc)))

    -- of a keeper that was made of its own
    pub fails_over : (Makes : K → K → Type 0) (row : K → Type 0)
        → ((made : K) → Makes x.keeper made → row made → bad x) → (outcome : Result ℕ Fault) (r : Reply)
        → r ≡ opened_reply outcome
        → IfErr outcome (λ fault. fault ≡ faults.KeeperFailed
        → (made : K) × Makes x.keeper made × (IsTrue (custody.is_broken y.keeper) ⊎ (custody.is_honest y.keeper → row made)))
        → r ≡ reply.Refused faults.KeeperFailed → FailsAt custody bad old new number
    fails_over Makes row leads (Ok boot) r is cause e = absurd (cc)
    fails_over Makes row leads (Err fault) r is cause e =
        let made = cause (same_fault fault faults.KeeperFailed (cc)) in
        fails_at (elim made.2 [ inl b ↦ inl b | inr h ↦ inr (λ honest. leads made.0 made.1 (h honest)) ])

-- where no node is opened for another cause, no keeper fails
pub not_failed : {broken honest bad : Type 0} (fault : Fault) → (fault ≡ faults.KeeperFailed → ⊥)
    → KeeperFails broken honest bad fault
not_failed fault other failed = absurd (other failed)

pub no_room : (fault : Fault) → fault ≡ faults.Refused Memory → fault ≡ faults.KeeperFailed → ⊥
no_room fault is e = absurd (cc)

-- ---- what is always told

-- one node has the number
pub same_there : {X : Type 0} (found : Option X) (n x : X) → found ≡ Some n → found ≡ Some x → x ≡ n
same_there found n x p q = cc

pub told_so : (outcome : Result ℕ Fault) (r : Reply) (fault : Fault) → r ≡ opened_reply outcome → outcome ≡ Err fault
    → r ≡ reply.Refused fault
told_so outcome r fault is e = is ∙ ap opened_reply e

pub never_booted : (outcome : Result ℕ Fault) (boot : ℕ) (fault : Fault) → outcome ≡ Ok boot → outcome ≡ Err fault → ⊥
never_booted outcome boot fault p q = cc

pub refused_so : (outcome : Result ℕ Fault) (told fault : Fault) → outcome ≡ Err told → outcome ≡ Err fault
    → reply.Refused told ≡ reply.Refused fault
refused_so outcome told fault p q = cc
