-- The calls of a node as steps of the world.
use Rattle.std.proofs.Common.{◌≡◌, refl, sym, subst, ℕ, Bool, [], Some, None, Result, Ok, Err}
use Rattle.std.specs.FinMap as map
use Rattle.fl_store.specs.Custody.{Custody}
use Rattle.fl_store.specs.Kept.{Kept}
use Rattle.fl_store.specs.Keeping.{Follows}
use Rattle.fl_system.specs.declared.answer.Fault.{Fault}
use Rattle.fl_system.specs.declared.event.Event.{Event}
use Rattle.fl_system.specs.declared.event.Event.TheVariants as event
use Rattle.fl_system.specs.declared.reply.Reply.TheVariants as reply
use Rattle.fl_system.specs.declared.state.Batch.{Batch}
use Rattle.fl_system.specs.declared.state.Batch.TheVariants.{Ordered, Received}
use Rattle.fl_system.specs.declared.state.Pending.TheVariants.{Due}
use Rattle.fl_system.specs.declared.state.State.TheVariants.{Running}
use Rattle.fl_system.specs.State.{NodeState}
use Rattle.fl_system.specs.Saves.{Saves}
use Rattle.fl_system.specs.Publishes.{Publishes, Cancels}
use Rattle.fl_system.specs.Openings.{Restarts}
use Rattle.fl_system.specs.World.{World, went}
use Rattle.fl_system.specs.WorldCalls.{SaveAt, PublishAt, CancelAt, RestartAt}
use Rattle.fl_system.specs.WorldSteps.{Step, node_of}
use Rattle.fl_node.specs.Over.{NodeOver}
use Rattle.fl_nodes.specs.Over.{WorldOver}
use Rattle.fl_nodes.specs.Goes.{Goes}
use Rattle.fl_nodes.specs.parts.Published.{published_reply}
use Rattle.fl_nodes.proofs.Lifting.{lifts, lifts_kept, stays, no_node, over_went, with_kept}

-- what is published was due
record WasDue (n : NodeState) : Type 0 where
  batch : Batch
  is : n.state ≡ Running (Due batch)

was_due : (n n' : NodeState) (result : Result ℕ Fault) (count : ℕ) → Publishes n result n' → result ≡ Ok count → WasDue n
was_due n n' result count (Publishes.published {batch} is) e = record { batch = batch; is = is }
was_due n n' result count (Publishes.no_room is) e = absurd (cc)
was_due n n' result count (Publishes.none not_due) e = absurd (cc)

published_at : (w : World) (number : ℕ) (n n' : NodeState) (k : Kept) (count : ℕ) → Publishes n (Ok count) n' → WasDue n
    → PublishAt w number (with_kept n k) (published_reply n.state) (went w number n' k [] [])
published_at w number n n' k count h was = by_batch was.batch was.is
  where
    by_batch : (batch : Batch) → n.state ≡ Running (Due batch) → PublishAt w number (with_kept n k) (published_reply n.state) (went w number n' k [] [])
    by_batch (Ordered op maker desk) is = subst (λ s. PublishAt w number (with_kept n k) (published_reply s) (went w number n' k [] [])) (sym is) (PublishAt.ordered is h)
    by_batch (Received ops) is = subst (λ s. PublishAt w number (with_kept n k) (published_reply s) (went w number n' k [] [])) (sym is) (PublishAt.received is h)

module _ {K : Type 0} (custody : Custody K) where
  -- what is named is not there
  pub no_such : (old : WorldOver K) (e : Event) → map.get old.nodes (node_of e) ≡ None
      → Goes custody old old (λ w w'. Step w e reply.NoSuch w')
  no_such old e none = stays custody old _ (λ w is. Step.no_node (no_node custody old w (node_of e) none is))

  pub no_such_left : (old new : WorldOver K) (e : Event) → new ≡ old → map.get old.nodes (node_of e) ≡ None
      → Goes custody old new (λ w w'. Step w e reply.NoSuch w')
  no_such_left old new e same none =
      subst (λ n. Goes custody old n (λ w w'. Step w e reply.NoSuch w')) (sym same) (no_such old e none)

  module _ (old new : WorldOver K) (number : ℕ) (x y : NodeOver K) (there : map.get old.nodes number ≡ Some x)
      (is_new : new ≡ over_went old number y [] []) where
    pub saved : (custody.is_honest y.keeper → custody.is_honest x.keeper × Follows (λ k k'. Saves x.node k (Ok tt) y.node k') (custody.may_hold x.keeper) (custody.may_hold y.keeper))
        → Goes custody old new (λ w w'. Step w (event.Save number) reply.Done w')
    saved call = lifts custody old number x y [] [] there new _ _ is_new call (λ w k k' at is h. Step.save at (SaveAt.saved h))

    pub not_saved : (fault : Fault) → (custody.is_honest y.keeper → custody.is_honest x.keeper × Follows (λ k k'. Saves x.node k (Err fault) y.node k') (custody.may_hold x.keeper) (custody.may_hold y.keeper))
        → Goes custody old new (λ w w'. Step w (event.Save number) (reply.Refused fault) w')
    not_saved fault call = lifts custody old number x y [] [] there new _ _ is_new call (λ w k k' at is h. Step.save at (SaveAt.refused h))

    pub given_up : y.keeper ≡ x.keeper → Cancels x.node (Ok tt) y.node
        → Goes custody old new (λ w w'. Step w (event.Cancel number) reply.Done w')
    given_up same h = lifts_kept custody old number x y [] [] there new _ is_new same (λ w k at is. Step.cancel at (CancelAt.given_up h))

    pub not_given_up : (fault : Fault) → y.keeper ≡ x.keeper → Cancels x.node (Err fault) y.node
        → Goes custody old new (λ w w'. Step w (event.Cancel number) (reply.Refused fault) w')
    not_given_up fault same h = lifts_kept custody old number x y [] [] there new _ is_new same (λ w k at is. Step.cancel at (CancelAt.refused h))

    pub published : (count : ℕ) → y.keeper ≡ x.keeper → Publishes x.node (Ok count) y.node
        → Goes custody old new (λ w w'. Step w (event.Publish number) (published_reply x.node.state) w')
    published count same h = lifts_kept custody old number x y [] [] there new _ is_new same
        (λ w k at is. Step.publish at (published_at w number x.node y.node k count h (was_due x.node y.node (Ok count) count h refl)))

    pub not_published : (fault : Fault) → y.keeper ≡ x.keeper → Publishes x.node (Err fault) y.node
        → Goes custody old new (λ w w'. Step w (event.Publish number) (reply.Refused fault) w')
    not_published fault same h = lifts_kept custody old number x y [] [] there new _ is_new same (λ w k at is. Step.publish at (PublishAt.refused h))

    pub booted : (keeps : Bool) (boot : ℕ) → (custody.is_honest y.keeper → custody.is_honest x.keeper × Follows (λ k k'. Restarts x.node k keeps (Ok boot) y.node k') (custody.may_hold x.keeper) (custody.may_hold y.keeper))
        → Goes custody old new (λ w w'. Step w (event.Restart number keeps) (reply.Booted boot) w')
    booted keeps boot call = lifts custody old number x y [] [] there new _ _ is_new call (λ w k k' at is h. Step.restart at (RestartAt.booted h))

    pub not_booted : (keeps : Bool) (fault : Fault) → (custody.is_honest y.keeper → custody.is_honest x.keeper × Follows (λ k k'. Restarts x.node k keeps (Err fault) y.node k') (custody.may_hold x.keeper) (custody.may_hold y.keeper))
        → Goes custody old new (λ w w'. Step w (event.Restart number keeps) (reply.Refused fault) w')
    not_booted keeps fault call = lifts custody old number x y [] [] there new _ _ is_new call (λ w k k' at is h. Step.restart at (RestartAt.refused h))
