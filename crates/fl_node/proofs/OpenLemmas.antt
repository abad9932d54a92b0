-- What an opening leaves, from what it finds.
use Rattle.std.proofs.Common.{◌≡◌, ◌<◌, inl, inr, ◌∙◌, ◌+◌, refl, sym, ap, subst, ℕ, List, Ok, Err}
use Rattle.fl_labels.specs.SetBy.{SetBy, members}
use Rattle.fl_ops.specs.declared.op.Op.{Op}
use Rattle.fl_ops.specs.OpOrder.{op_cmp}
use Rattle.fl_jobs.specs.declared.answer.Refusal.TheVariants.{Memory}
use Rattle.fl_store.specs.Kept.{Kept, raised}
use Rattle.fl_store.specs.Keeping.{Held, Follows}
use Rattle.fl_system.specs.declared.answer.Fault.{Fault}
use Rattle.fl_system.specs.declared.answer.Fault.TheVariants.{Refused}
use Rattle.fl_node.specs.parts.Finding.{FailsToFind, IsFound, IsNotFound, FailsToRaise, IsRaised}
use Rattle.fl_system.specs.Openings.{starting, opened, FailsToOpen, Opens}

fresh_is : (desks number boot : ℕ) (saved : SetBy op_cmp) (published : List Op) (k : Kept) → k.number ≡ number → boot ≡ k.boot + 1 → saved ≡ k.saved → published ≡ members saved
    → starting desks number boot saved published ≡ opened desks k
fresh_is desks number boot saved published k number_is boot_is saved_is published_is =
    λ i. starting desks ((sym number_is) i) (boot_is i) (saved_is i) ((published_is ∙ ap members saved_is) i)

module _ (desks : ℕ) (own : Kept → Type 0) (number : ℕ) (its : (k : Kept) → own k → k.number ≡ number) where
  fails_to_open : (k : Kept) (fault : Fault) → FailsToFind number k fault → FailsToOpen own k fault
  fails_to_open k fault FailsToFind.no_room = FailsToOpen.no_room
  fails_to_open k fault FailsToFind.keeper_failed = FailsToOpen.keeper_failed
  fails_to_open k fault (FailsToFind.other differs) = FailsToOpen.other (λ is. differs (its k is))

  pub not_found : (old new : Held) (fault : Fault) → Follows (IsNotFound number fault) old new → Follows (λ k k'. Opens desks own k (Err fault) k') old new
  not_found old new fault h after is = let b = h after is in (b.0, b.1, Opens.refused (fails_to_open b.0 fault b.2.fails) (inl b.2.same))

-- what is the node's own where its boots are spent is not opened
fails_raised : (desks : ℕ) (own : Kept → Type 0) (k k' : Kept) (fault : Fault) → (k.boot ≡ 4294967295 → own k) → FailsToRaise k fault k'
    → Opens desks own k (Err fault) k'
fails_raised desks own k k' fault its FailsToRaise.no_room = Opens.refused FailsToOpen.no_room (inl refl)
fails_raised desks own k k' fault its (FailsToRaise.keeper_failed left) = Opens.refused FailsToOpen.keeper_failed left
fails_raised desks own k k' fault its (FailsToRaise.spent all) = Opens.spent (its all) all

module _ (desks : ℕ) (own : Kept → Type 0) (number : ℕ) (saved : SetBy op_cmp) (old mid : Held) (found : Follows (IsFound number saved) old mid) where
  -- what is found is not opened
  pub found_refused : (fault : Fault) → ((k : Kept) → old k → saved ≡ k.saved → k.number ≡ number → FailsToOpen own k fault) → Follows (λ k k'. Opens desks own k (Err fault) k') old mid
  found_refused fault fails after is =
      let b = found after is in
      (b.0, b.1, Opens.refused (fails b.0 b.1 b.2.saved_is b.2.number_is) (inl b.2.same))

  pub found_no_room : Follows (λ k k'. Opens desks own k (Err (Refused Memory)) k') old mid
  found_no_room = found_refused (Refused Memory) (λ k _ _ _. FailsToOpen.no_room)

  module _ (new : Held) where
    pub not_raised : (fault : Fault) → ((k : Kept) → k.number ≡ number → saved ≡ k.saved → k.boot ≡ 4294967295 → own k)
        → Follows (λ k k'. FailsToRaise k fault k') mid new → Follows (λ k k'. Opens desks own k (Err fault) k') old new
    not_raised fault is_own h after is =
        let r = h after is in
        let b = found r.0 r.1 in (
          b.0,
          b.1,
          fails_raised desks own b.0 after fault (is_own b.0 b.2.number_is b.2.saved_is)
              (subst (λ k. FailsToRaise k fault after) b.2.same r.2),
        )

    -- raised, and found to be another's by its boot
    pub raised_refused : (boot : ℕ) (fault : Fault) → ((k : Kept) → boot ≡ k.boot + 1 → FailsToOpen own k fault) → Follows (IsRaised boot) mid new → Follows (λ k k'. Opens desks own k (Err fault) k') old new
    raised_refused boot fault fails h after is =
        let r = h after is in
        let b = found r.0 r.1 in (
          b.0,
          b.1,
          Opens.refused (fails b.0 (subst (λ (k : Kept). boot ≡ k.boot + 1) b.2.same r.2.boot_is)) (inr (r.2.up ∙ ap raised b.2.same)),
        )

    pub opens : (boot : ℕ) (published : List Op) → published ≡ members saved → ((k : Kept) → k.number ≡ number → boot ≡ k.boot + 1 → saved ≡ k.saved → own k)
        → Follows (IsRaised boot) mid new → Follows (λ k k'. Opens desks own k (Ok (starting desks number boot saved published)) k') old new
    opens boot published published_is is_own h after is =
        let r = h after is in
        let b = found r.0 r.1 in
        let boot_is = subst (λ (k : Kept). boot ≡ k.boot + 1) b.2.same r.2.boot_is in
        let left = subst (λ (k : Kept). k.boot < 4294967295) b.2.same r.2.left in
        let node_is = fresh_is desks number boot saved published b.0 b.2.number_is boot_is b.2.saved_is published_is in (
          b.0,
          b.1,
          subst (λ n. Opens desks own b.0 (Ok n) after) (sym node_is)
              (subst (λ k. Opens desks own b.0 (Ok (opened desks b.0)) k) (sym (r.2.up ∙ ap raised b.2.same)) (Opens.opens (is_own b.0 b.2.number_is boot_is b.2.saved_is) left)),
        )

    -- an opening finds what the opened node has
    pub kept_opened : (boot : ℕ) → Follows (IsRaised boot) mid new → (k : Kept) → new k → k ≡ record { number = number; boot = boot; saved = saved }
    kept_opened boot h after is =
        let r = h after is in
        let b = found r.0 r.1 in
        let boot_is = subst (λ (k : Kept). boot ≡ k.boot + 1) b.2.same r.2.boot_is in
        r.2.up ∙ ap raised b.2.same ∙ (λ i. record { number = b.2.number_is i; boot = (sym boot_is) i; saved = (sym b.2.saved_is) i })

-- it was opened, and then there was no room
pub no_room_after : (desks : ℕ) (own : Kept → Type 0) (number : ℕ) (saved : SetBy op_cmp) (old mid new : Held) (boot : ℕ) → Follows (IsFound number saved) old mid
    → Follows (IsRaised boot) mid new → Follows (λ k k'. Opens desks own k (Err (Refused Memory)) k') old new
no_room_after desks own number saved old mid new boot found raises =
    raised_refused desks own number saved old mid found new boot (Refused Memory) (λ k _. FailsToOpen.no_room) raises
