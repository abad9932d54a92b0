-- What an opening finds, from what the keeper's calls leave.
use Rattle.std.proofs.Common.{◌≡◌, ◌≢◌, ◌⊎◌, ◌≤◌, inl, inr, ◌∙◌, refl, sym, subst, arith, ℕ, Bool, IsTrue, Ok, Err}
use Rattle.fl_labels.specs.SetBy.{SetBy}
use Rattle.fl_ops.specs.OpOrder.{op_cmp}
use Rattle.fl_jobs.specs.declared.answer.Refusal.TheVariants as refusal
use Rattle.fl_store.specs.declared.keeper.KeeperFault.{KeeperFault}
use Rattle.fl_store.specs.declared.keeper.KeeperFault.TheVariants.{Memory, Broken, WrongNode as IsOther, BadRow, NamesSpent}
use Rattle.fl_store.specs.Kept.{Kept}
use Rattle.fl_store.specs.Keeping.{Held, Follows, Stays, AfterLoad, AfterBoot, LoadFails, BootFails}
use Rattle.fl_system.specs.declared.answer.Fault.{Fault}
use Rattle.fl_system.specs.declared.answer.Fault.TheVariants.{Refused, KeeperFailed, WrongNode}
use Rattle.fl_node.specs.parts.Finding.{shown_as, FailsToFind, IsFound, IsNotFound, FailsToRaise, IsRaised}

module _ (old new : Held) where
  -- the node's operations are found
  pub found : (number own : ℕ) (saved : SetBy op_cmp) → ((k : Kept) → old k → k.number ≡ own) → own ≡ number → AfterLoad old new (Ok saved) → Follows (IsFound number saved) old new
  found number own saved numbered is_own h after is = let b = h after is in (b.0, b.1, record { same = b.2.0; saved_is = b.2.1; number_is = numbered b.0 b.1 ∙ is_own })

  stays_as : (number : ℕ) (fault : Fault) → ((k : Kept) → FailsToFind number k fault) → Stays old new → Follows (IsNotFound number fault) old new
  stays_as number fault fails h after is = let b = h after is in (b.0, b.1, record { same = b.2; fails = fails b.0 })

  pub not_loaded : (number : ℕ) (f : KeeperFault) → AfterLoad old new (Err f) → Follows (IsNotFound number (shown_as f)) old new
  not_loaded number Memory h = stays_as number (Refused refusal.Memory) (λ k. FailsToFind.no_room) h
  not_loaded number Broken h = stays_as number KeeperFailed (λ k. FailsToFind.keeper_failed) h
  not_loaded number BadRow h = stays_as number KeeperFailed (λ k. FailsToFind.keeper_failed) h
  not_loaded number IsOther h = absurd h
  not_loaded number NamesSpent h = absurd h

  pub raises : (boot : ℕ) → boot ≤ 4294967295 → AfterBoot old new (Ok boot) → Follows (IsRaised boot) old new
  raises boot upper h after is =
      let b = h after is in
      let up = b.2.1 in
      (b.0, b.1, record { up = b.2.0; boot_is = up; left = omega (arith, upper, up) })

  pub not_raised : (f : KeeperFault) → AfterBoot old new (Err f) → Follows (λ k k'. FailsToRaise k (shown_as f) k') old new
  not_raised Memory h = λ after is.
      let b = h after is in
      (b.0, b.1, subst (FailsToRaise b.0 (Refused refusal.Memory)) (sym b.2) FailsToRaise.no_room)
  not_raised Broken h = λ after is. let b = h after is in (b.0, b.1, FailsToRaise.keeper_failed b.2)
  not_raised BadRow h = absurd h
  not_raised IsOther h = absurd h
  not_raised NamesSpent h = λ after is.
      let b = h after is in
      (b.0, b.1, subst (FailsToRaise b.0 (Refused refusal.NamesSpent)) (sym b.2.0) (FailsToRaise.spent b.2.1))

-- another node's is not found
pub other_node : {old : Held} {number own : ℕ} → ((k : Kept) → old k → k.number ≡ own) → own ≢ number → Follows (IsNotFound number WrongNode) old old
other_node numbered differs after is = (after, is, record { same = refl; fails = FailsToFind.other (λ e. differs (sym (numbered after is) ∙ e)) })

-- what is told as a failure broke it, or a row is bad
pub load_failed : (broken : Bool) (failed : ℕ) (bad Why : Type 0) (f : KeeperFault) → (f ≡ Broken → Why)
    → LoadFails broken failed bad f → shown_as f ≡ KeeperFailed → Why ⊎ bad
load_failed broken failed bad Why Memory why h is = absurd (cc)
load_failed broken failed bad Why Broken why h is = inl (why refl)
load_failed broken failed bad Why BadRow why h is = inr h
load_failed broken failed bad Why IsOther why h is = absurd h
load_failed broken failed bad Why NamesSpent why h is = absurd h

-- what is told as a failure broke it
pub boot_broke : (broken : Bool) (failed : ℕ) (f : KeeperFault) → BootFails broken failed f
    → shown_as f ≡ KeeperFailed → f ≡ Broken
boot_broke broken failed Memory h is = absurd (cc)
boot_broke broken failed Broken h is = refl
boot_broke broken failed BadRow h is = absurd h
boot_broke broken failed IsOther h is = absurd h
boot_broke broken failed NamesSpent h is = absurd (cc)

pub boot_failed : (broken : Bool) (failed : ℕ) (f : KeeperFault) → BootFails broken failed f → shown_as f ≡ KeeperFailed → IsTrue broken
boot_failed broken failed Memory h is = absurd (cc)
boot_failed broken failed Broken h is = h.0
boot_failed broken failed BadRow h is = absurd h
boot_failed broken failed IsOther h is = absurd h
boot_failed broken failed NamesSpent h is = absurd (cc)
