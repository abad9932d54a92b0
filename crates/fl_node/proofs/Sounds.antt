-- What stays true of a node.
use Rattle.std.proofs.Common.{◌≡◌, ◌∙◌, refl, sym, ap, subst, ℕ, List}
use Rattle.std.specs.declared.option.Option.{Option}
use Rattle.fl_labels.specs.SetBy as set
use Rattle.fl_labels.specs.SetBy.{SetBy}
use Rattle.fl_ops.specs.declared.op.Op.{Op}
use Rattle.fl_ops.specs.OpOrder.{op_cmp}
use Rattle.fl_ops.specs.OpLaws.{op_total, op_exact}
use Rattle.fl_opset.specs.Without.{without}
use Rattle.fl_store.specs.Kept.{Kept, HasNamesOnce, with_ops, with_batch}
use Rattle.fl_store.specs.Keeping.{Held, Follows, Stays}
use Rattle.fl_store.specs.laws.KeptSets.{once-more, of_list-append}
use Rattle.fl_system.specs.declared.state.Batch.{Batch}
use Rattle.fl_system.specs.declared.state.Pending.{Pending}
use Rattle.fl_system.specs.declared.state.Pending.TheVariants.{Nothing, Unsaved, Due}
use Rattle.fl_system.specs.declared.state.State.{State}
use Rattle.fl_system.specs.declared.state.State.TheVariants.{Running, Stopped}
use Rattle.fl_system.specs.State.{ops_of}
use Rattle.fl_system.specs.Waiting.{IsRunning}
use Rattle.fl_node.specs.Sound.{IsSound, IsFresh, IsListed, unpublished}
use Rattle.fl_node.proofs.SaveLemmas.{back}

-- what is published of a node that runs
pub published_is : (s : State) (list : List Op) (saved : SetBy op_cmp) → IsRunning s → IsListed s list saved → set.of_list list ≡ without saved (unpublished s)
published_is (Running Nothing) list saved running h = h
published_is (Running (Unsaved batch)) list saved running h = h
published_is (Running (Due batch)) list saved running h = h.0
published_is (Stopped doubt) list saved running h = absurd running

module _ {honest : Type 0} {held : Held} {number boot : ℕ} {saved : SetBy op_cmp} {published : List Op} {desks benches : ℕ} where
  -- what is on its way moves on
  pub moves : (s : State) (list : List Op) (pending : Pending) → IsRunning s → IsFresh (Running pending) saved → IsListed (Running pending) list saved
      → IsSound honest held number boot saved published s desks benches → IsSound honest held number boot saved list (Running pending) desks benches
  moves (Running p) list pending running fresh listed h = record {
    numbered = h.numbered;
    booted = h.booted;
    once = h.once;
    fresh = fresh;
    listed = listed;
    kept = h.kept;
    paired = h.paired;
  }
  moves (Stopped doubt) list pending running fresh listed h = absurd running

  -- other views and benches, as many
  pub counts_on : (s : State) (desks' benches' : ℕ) → desks' ≡ desks → benches' ≡ benches → IsSound honest held number boot saved published s desks benches
      → IsSound honest held number boot saved published s desks' benches'
  counts_on s desks' benches' same_desks same_benches h = record {
    numbered = h.numbered;
    booted = h.booted;
    once = h.once;
    fresh = h.fresh;
    listed = h.listed;
    kept = h.kept;
    paired = same_benches ∙ h.paired ∙ sym same_desks;
  }

  -- a desk has looked at the list
  pub looks_on : (s : State) (list : List Op) (desks' : ℕ) → list ≡ published → desks' ≡ desks → IsSound honest held number boot saved published s desks benches
      → IsSound honest held number boot saved list s desks' benches
  looks_on s list desks' same same_desks h = subst (λ l. IsSound honest held number boot saved l s desks' benches) (sym same) (counts_on s desks' benches same_desks refl h)

module _ {honest : Type 0} {held : Held} {number boot : ℕ} {saved : SetBy op_cmp} {published : List Op} {desks benches : ℕ} where
  -- what was due is published, or what was pending is given up
  pub rests_on : (s : State) (list : List Op) (desks' benches' : ℕ) → IsRunning s → set.of_list list ≡ saved → desks' ≡ desks → benches' ≡ benches
      → IsSound honest held number boot saved published s desks benches → IsSound honest held number boot saved list (Running Nothing) desks' benches'
  rests_on s list desks' benches' running listed same_desks same_benches h =
      counts_on (Running Nothing) desks' benches' same_desks same_benches (moves s list Nothing running tt listed h)

module _ {honest honest' : Type 0} {held held' : Held} {number boot : ℕ} {saved saved' : SetBy op_cmp} {published : List Op} {desks benches : ℕ} where
  -- another keeper, or one that changed, at a node that is stopped
  pub halts : (s : State) (doubt : Option Batch) → saved' ≡ saved → IsSound honest held number boot saved published s desks benches
      → IsSound honest' held' number boot saved' published (Stopped doubt) desks benches
  halts s doubt saved_is h = record { numbered = h.numbered; booted = h.booted; once = subst HasNamesOnce (sym saved_is) h.once; fresh = tt; listed = tt; kept = λ _. tt; paired = h.paired }

  -- the batch is saved
  pub saves_on : (batch : Batch) → saved' ≡ with_ops saved (ops_of batch) → (honest' → honest × Follows (λ k k'. k' ≡ with_batch k (ops_of batch)) held held')
      → IsSound honest held number boot saved published (Running (Unsaved batch)) desks benches
      → IsSound honest' held' number boot saved' published (Running (Due batch)) desks benches
  saves_on batch saved_is step h = record {
    numbered = h.numbered;
    booted = h.booted;
    once = subst HasNamesOnce (sym saved_is) (once-more (ops_of batch) saved h.fresh h.once);
    fresh = tt;
    listed = (
      h.listed ∙ sym (back saved (ops_of batch) h.fresh) ∙ ap (λ s. without s (ops_of batch)) (sym saved_is),
      of_list-append op_total op_exact published (ops_of batch) ∙ ap (λ s. set.union s (set.of_list (ops_of batch))) h.listed ∙ sym saved_is,
    );
    kept = λ trusted k is.
        let s = step trusted in
        let b = s.1 k is in
        b.2 ∙ ap (λ (x : Kept). with_batch x (ops_of batch)) (h.kept s.0 b.0 b.1) ∙ (λ i. record { number = number; boot = boot; saved = (sym saved_is) i });
    paired = h.paired;
  }

  -- it is not, for want of memory
  pub stays_on : (s : State) → IsRunning s → saved' ≡ saved → (honest' → honest × Stays held held') → IsSound honest held number boot saved published s desks benches
      → IsSound honest' held' number boot saved' published s desks benches
  stays_on (Running pending) running saved_is step h = record {
    numbered = h.numbered;
    booted = h.booted;
    once = subst HasNamesOnce (sym saved_is) h.once;
    fresh = subst (IsFresh (Running pending)) (sym saved_is) h.fresh;
    listed = subst (IsListed (Running pending) published) (sym saved_is) h.listed;
    kept = λ trusted k is.
        let s = step trusted in
        let b = s.1 k is in
        b.2 ∙ h.kept s.0 b.0 b.1 ∙ (λ i. record { number = number; boot = boot; saved = (sym saved_is) i });
    paired = h.paired;
  }
  stays_on (Stopped doubt) running saved_is step h = absurd running
