-- A crew is restarted beside its node.
use Rattle.std.proofs.Common.{◌≡◌, ◌∙◌, inl, inr, refl, sym, ap, subst, ℕ, Bool, true, false, List}
use Rattle.std.proofs.Common.{[], map, Option, Some, None, Result, Ok, Err}
use Rattle.std.proofs.lemmas.List.{append-nil}
use Rattle.std.specs.Cmp.{nat_cmp_total}
use Rattle.fl_bench.specs.laws.Puts.{get_here}
use Rattle.fl_store.specs.Custody.{Custody}
use Rattle.fl_store.specs.Kept.{Kept}
use Rattle.fl_makers.specs.Making.{Making}
use Rattle.fl_system.specs.declared.answer.Fault.{Fault}
use Rattle.fl_system.specs.declared.event.Event.TheVariants as event
use Rattle.fl_system.specs.declared.reply.Reply.TheVariants as replies
use Rattle.fl_system.specs.declared.sent.Sent.{Sent}
use Rattle.fl_system.specs.declared.state.Batch.{Batch}
use Rattle.fl_system.specs.declared.state.Pending.TheVariants.{Nothing}
use Rattle.fl_system.specs.declared.state.State.TheVariants.{Running}
use Rattle.fl_system.specs.Openings.{Opens, OpensAgain, Restarts, opened}
use Rattle.fl_system.specs.State.{NodeState, kept_of}
use Rattle.fl_system.specs.World.{World, went}
use Rattle.fl_system.specs.WorldCalls.{RestartAt}
use Rattle.fl_system.specs.WorldSteps.{Step}
use Rattle.fl_calls.specs.Answer.{Answer, replied}
use Rattle.fl_calls.specs.Calls.{Says}
use Rattle.fl_calls.specs.Completing.{Completes}
use Rattle.fl_calls.specs.Over.{Trusts}
use Rattle.fl_workers.specs.Over.{CrewOver}
use Rattle.fl_workers.specs.Seated.{RestartsCrew, seated_of}
use Rattle.fl_crew_calls.specs.Asking.{IsRestarted, RestartsAt, boot_reply}
use Rattle.fl_crew_calls.specs.Over.{CrewsOver, IsCrewAt, with_crew}
use Rattle.fl_world_laws.specs.laws.Nodes.{Now, is_new, is_old, now}
use Rattle.fl_one_worker_laws.specs.Single.{IsNodeOf}
use Rattle.fl_one_worker_laws.proofs.Restarting.{kept_same}
use Rattle.fl_one_worker_calls.specs.Crews.{AreSound, IsSound}
use Rattle.fl_one_worker_calls.specs.Worlds.{packet_in}
use Rattle.fl_one_worker_calls.proofs.Places.{at_number, elsewhere}
use Rattle.fl_one_worker_calls.proofs.Serving.{stands_at}
use Rattle.fl_one_worker_scripts.proofs.Standing.{placed_tied, some_same}
use Rattle.fl_one_worker_scripts.proofs.Ties.{AreHeld, Meets, Ties}

-- what the law of one worker says of a crew that is restarted
abbrev pub CrewRestarts : Type 0 → Type 0
CrewRestarts K =
    (old new : CrewOver K) (n : NodeState) (k k' : Kept) (keeps : Bool) (boot : ℕ) → IsNodeOf old n
    → old.due ≡ None → old.node.node.state ≡ Running Nothing → new ≡ seated_of new.node 1
    → Restarts old.node.node k keeps (Ok boot) new.node.node k'
    → Restarts n k keeps (Ok boot) (opened 1 k) k' × IsNodeOf new (opened 1 k)

-- ---- what is kept of a node that was restarted is what it saved

again_kept : (n : NodeState) (doubt : Option Batch) (k : Kept) (boot : ℕ) (n' : NodeState)
    (k' : Kept) → OpensAgain n doubt k (Ok boot) n' k' → k' ≡ kept_of n'
again_kept n doubt k boot n' k' (OpensAgain.opens (Opens.opens own low)) = refl

restart_kept : (n : NodeState) (k : Kept) (keeps : Bool) (boot : ℕ) (n' : NodeState) (k' : Kept)
    → Restarts n k keeps (Ok boot) n' k' → k' ≡ kept_of n'
restart_kept n k keeps boot n' k' (Restarts.saved keep at again) = again_kept _ _ _ boot n' k' again
restart_kept n k keeps boot n' k' (Restarts.lost keep at again) = again_kept _ _ _ boot n' k' again
restart_kept n k keeps boot n' k' (Restarts.idle at again) = again_kept _ _ _ boot n' k' again
restart_kept n k keeps boot n' k' (Restarts.due at again) = again_kept _ _ _ boot n' k' again
restart_kept n k keeps boot n' k' (Restarts.stopped at again) = again_kept _ _ _ boot n' k' again

-- where the crew was told of a boot its node was restarted
restarts_of : (n : NodeState) (keeps : Bool) (boot : ℕ) (n' : NodeState) (k k' : Kept)
    → RestartsCrew n keeps (Ok boot) n' k k' → Restarts n k keeps (Ok boot) n' k'
restarts_of n keeps boot n' k k' (inl h) = h
restarts_of n keeps boot n' k k' (inr h) = absurd (let q = h.0 in cc)

module _ {K : Type 0} (custody : Custody K) (keeps : Bool) (old new : CrewOver K)
    (sound : IsSound custody new) where
  -- a crew that was not restarted is stopped
  pub not_stopped : {X : Type 0} (fault : Fault) → IsRestarted custody keeps old new (Err fault) → X
  not_stopped fault restarted =
      absurd (
      let stopped : new.stopped ≡ true = ap (λ (c : CrewOver K). c.stopped) restarted.stopped in
      let runs : new.stopped ≡ false = sound.runs in
      cc)

  -- its keeper held this, and its node was restarted over that
  pub record RestartedOver (boot : ℕ) (left : Kept) : Type 0 where
    pub kept : Kept
    pub held : custody.may_hold old.node.keeper kept
    pub again : Restarts old.node.node kept keeps (Ok boot) new.node.node left

  pub restarted_over : (boot : ℕ) → IsRestarted custody keeps old new (Ok boot) → (left : Kept)
      → custody.may_hold new.node.keeper left → RestartedOver boot left
  restarted_over boot restarted left held =
      let before = (restarted.restarts sound.trusts.honest).1 left held in
      record {
        kept = before.0;
        held = before.1;
        again = restarts_of old.node.node keeps boot new.node.node before.0 left before.2;
      }

  restarted_held : (result : Result ℕ Fault) → IsRestarted custody keeps old new result
      → (k : Kept) → custody.may_hold new.node.keeper k → k ≡ kept_of new.node.node
  restarted_held (Err fault) restarted k held = not_stopped fault restarted
  restarted_held (Ok boot) restarted k held =
      let over = restarted_over boot restarted k held in
      restart_kept old.node.node over.kept keeps boot new.node.node k over.again

module _ {K M : Type 0} (custody : Custody K) where
  pub restarts_trusts : (between : CrewsOver K M) (number : ℕ) (keeps : Bool) (answer : Answer)
      (new : CrewsOver K M) → AreSound custody new → RestartsAt custody between number keeps answer
      new
      → (crew : CrewOver K) → IsCrewAt between number crew → Trusts custody crew.node.keeper
  restarts_trusts between number keeps answer new sound
      (RestartsAt.restarts {crew = its} {crew'} there restarted) crew at =
      let here = get_here nat_cmp_total between.crews number (Some crew') in
      let trusts = (sound number crew' here).trusts in
      let before = restarted.restarts trusts.honest in
      let held = before.1 trusts.kept trusts.held in
      let same : its ≡ crew = some_same its crew (some_same _ _ (sym there ∙ at)) in
      subst (λ (c : CrewOver K). Trusts custody c.node.keeper) same
      (record { honest = before.0; kept = held.0; held = held.1 })

  pub restarts_held : (between : CrewsOver K M) (number : ℕ) (keeps : Bool) (answer : Answer)
      (new : CrewsOver K M) → AreHeld custody between → AreSound custody new
      → RestartsAt custody between number keeps answer new → AreHeld custody new
  restarts_held between number keeps answer new held sound
      (RestartsAt.restarts {crew} {crew'} {result} there restarted) =
      λ q its at. by_now q its (now between.crews number (Some crew') q (Some its) at)
    where
      it : (k : Kept) → custody.may_hold crew'.node.keeper k → k ≡ kept_of crew'.node.node
      it =
          restarted_held custody keeps crew crew'
          (sound number crew' (get_here nat_cmp_total between.crews number (Some crew'))) result
          restarted

      by_now : (q : ℕ) (its : CrewOver K) → Now between.crews number (Some crew') q (Some its)
          → (k : Kept) → custody.may_hold its.node.keeper k → k ≡ kept_of its.node.node
      by_now q its (is_new is same) =
          subst (λ (c : CrewOver K). (k : Kept) → custody.may_hold c.node.keeper k
          → k ≡ kept_of c.node.node) (some_same crew' its same) it
      by_now q its (is_old other at) = held q its at

module _ {K M : Type 0} (custody : Custody K) (making : Making M K)
    (crew_restarts : CrewRestarts K) (maker : M) where
  by_result : (between : CrewsOver K M) (v : World) (number : ℕ) (keeps : Bool)
      (crew crew' : CrewOver K) → Ties custody making maker between v
      → IsCrewAt between number crew → IsSound custody crew' → (result : Result ℕ Fault)
      → IsRestarted custody keeps crew crew' result
      → Meets making maker
      (λ w'. Says replied (Completes v (event.Restart number keeps)) (replied
      (boot_reply result)) w')
      (with_crew between number crew')
  by_result between v number keeps crew crew' ties at sound (Err fault) restarted =
      not_stopped custody keeps crew crew' sound fault restarted
  by_result between v number keeps crew crew' ties at sound (Ok boot) restarted =
      let place = stands_at between v number crew ties.stands at in
      let node = place.is_node in
      let left = sound.trusts.kept in
      let over =
      restarted_over custody keeps crew crew' sound boot restarted left sound.trusts.held in
      let was = ties.sound number crew at in
      let it =
      crew_restarts crew crew' place.place.node over.kept left keeps boot node was.idle
      was.listed.state
      (subst (λ (d : ℕ). crew' ≡ seated_of crew'.node d) node.size restarted.seated)
      over.again in
      let found : over.kept ≡ place.place.kept =
      ties.held number crew at over.kept over.held
      ∙ (sym (kept_same place.place.node crew.node.node node.crew.numbered node.boot
      node.crew.holds.saved) ∙ sym place.kept) in
      let again =
      subst (λ (k : Kept). Restarts place.place.node k keeps (Ok boot) (opened 1 over.kept) left)
      found it.0 in
      record {
        world = went v number (opened 1 over.kept) left [] [];
        steps = (
          replies.Booted boot,
          refl,
          Completes.at_once refl (Step.restart place.there (RestartAt.booted again)),
        );
        stands =
            placed_tied between v (went v number (opened 1 over.kept) left [] []) number crew'
            between.maker ties.stands
            (record {
              place = record { node = opened 1 over.kept; kept = left };
              there = at_number v number (opened 1 over.kept) left [] [];
              is_node = it.1;
              kept =
                  restart_kept place.place.node over.kept keeps boot (opened 1 over.kept) left it.0;
            }) (elsewhere v number (opened 1 over.kept) left [] [])
            (ap (λ (l : List Sent). map packet_in l) (append-nil v.packets));
        allows = ties.allows;
      }

  pub restarts : (between : CrewsOver K M) (v : World) (number : ℕ) (keeps : Bool)
      (answer : Answer) (new : CrewsOver K M) → Ties custody making maker between v
      → AreSound custody new
      → RestartsAt custody between number keeps answer new
      → Meets making maker
      (λ w'. Says replied (Completes v (event.Restart number keeps)) answer w') new
  restarts between v number keeps answer new ties sound
      (RestartsAt.restarts {crew} {crew'} {result} at restarted) =
      by_result between v number keeps crew crew' ties at
      (sound number crew' (get_here nat_cmp_total between.crews number (Some crew'))) result
      restarted
