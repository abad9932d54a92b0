-- A node that is opened over another keeper, as a step of the world.
use Rattle.std.proofs.Common.{◌≡◌, ◌∙◌, refl, sym, ap, subst, ℕ, [], Option, Some, None, Result, Ok, Err}
use Rattle.std.proofs.lemmas.Cmp.{nat_cmp_total}
use Rattle.std.proofs.lemmas.List.{append-nil}
use Rattle.std.specs.FinMap as map
use Rattle.std.specs.FinMap.{nat_cmp-IsAntisymmetric}
use Rattle.fl_mailbox.specs.laws.Tables.{put_same}
use Rattle.fl_jobs.specs.declared.answer.Refusal.TheVariants.{Busy}
use Rattle.fl_store.specs.Custody.{Custody}
use Rattle.fl_store.specs.Kept.{Kept}
use Rattle.fl_store.specs.Keeping.{Follows}
use Rattle.fl_system.specs.declared.answer.Fault.{Fault}
use Rattle.fl_system.specs.declared.answer.Fault.TheVariants as faults
use Rattle.fl_system.specs.declared.reply.Reply.{Reply}
use Rattle.fl_system.specs.declared.reply.Reply.TheVariants as reply
use Rattle.fl_system.specs.declared.state.State.{State}
use Rattle.fl_system.specs.declared.state.State.TheVariants.{Running, Stopped}
use Rattle.fl_system.specs.Joins.{Reopening}
use Rattle.fl_system.specs.Openings.{Reopens}
use Rattle.fl_system.specs.State.{NodeState}
use Rattle.fl_system.specs.Waiting.{IsRunning}
use Rattle.fl_system.specs.World.{World, went}
use Rattle.fl_system.specs.WorldSteps.{IsAt}
use Rattle.fl_node.specs.Over.{NodeOver}
use Rattle.fl_nodes.specs.Over.{WorldOver}
use Rattle.fl_nodes.specs.Goes.{Goes}
use Rattle.fl_nodes.specs.Joining.{GivesBack, ReturnsOver, TakesOver, spare, spare_of}
use Rattle.fl_nodes.specs.parts.Joined.{opened_reply}
use Rattle.fl_nodes.proofs.Lifting.{goes_to, here, honest_before, may_be_before, no_node, node_there, over_went, with_kept, world_before}

reopening : (w : World) (number : ℕ) (n n' : NodeState) (was k k' : Kept) (outcome : Result ℕ Fault) → IsAt w number (with_kept n was)
    → ¬ IsRunning n.state → Reopens n k outcome n' k' → Reopening w number k (opened_reply outcome) (went w number n' k' [] [])
reopening w number n n' was k k' (Ok boot) at stopped (Reopens.reopens is again) = Reopening.booted at is again
reopening w number n n' was k k' (Err fault) at stopped (Reopens.reopens is again) = Reopening.refused at is again
reopening w number n n' was k k' (Err fault) at stopped (Reopens.running running) = absurd (stopped running)

-- where the node is not there, the keeper is given back
pub spare_none : {K : Type 0} (o : Option (NodeOver K)) (keeper : K) → o ≡ None → keeper ≡ spare o keeper
spare_none o keeper none = subst (λ o. keeper ≡ spare o keeper) (sym none) refl

-- none and some are not there at once
pub none_there : {A P : Type 0} (o : Option A) → o ≡ None → (n : A) → o ≡ Some n → P
none_there o none n some = absurd (cc)

module _ {K : Type 0} (custody : Custody K) where
  pub not_there : (old new : WorldOver K) (number : ℕ) (keeper : K) → new ≡ old → map.get old.nodes number ≡ None
      → GivesBack custody old keeper new keeper (λ w k w' k'. Reopening w number k reply.NoSuch w')
  not_there old new number keeper same none =
      subst (λ n. GivesBack custody old keeper n keeper (λ w k w' k'. Reopening w number k reply.NoSuch w')) (sym same) (record {
        honest = λ all given. (all, given);
        comes = λ all given after k' is held. (after, k', is, held, Reopening.no_node (no_node custody old after number none is));
      })

  module _ (old new : WorldOver K) (number : ℕ) (x y : NodeOver K) (there : map.get old.nodes number ≡ Some x)
      (is_new : new ≡ over_went old number y [] []) where
    pub left_alone : y ≡ x → new ≡ old
    left_alone same =
        is_new
        ∙ (λ i. record {
          desks = old.desks;
          nodes = (ap (λ n. map.insert old.nodes number n) same ∙ put_same nat_cmp_total nat_cmp-IsAntisymmetric old.nodes number x there) i;
          packets = append-nil old.packets i;
          audit = append-nil old.audit i;
        })

    -- over what was made of its keeper
    pub returns_over : (made : K) (outcome : Result ℕ Fault) → ¬ IsRunning x.node.state → TakesOver custody x.keeper made
        → (custody.is_honest y.keeper → custody.is_honest made × Follows (λ k k'. Reopens x.node k outcome y.node k') (custody.may_hold made) (custody.may_hold y.keeper))
        → (result : Reply) → result ≡ opened_reply outcome → Goes custody old new (ReturnsOver custody made number result)
    returns_over made outcome stops takes opens result e =
        subst (λ r. Goes custody old new (ReturnsOver custody made number r)) (sym e)
        (subst (λ n. Goes custody old n (ReturnsOver custody made number (opened_reply outcome))) (sym is_new) (record {
          honest = λ all.
              honest_before custody old number x y [] [] there (λ _. takes.honest (opens (all number y (here old.nodes number y))).0) all;
          comes = λ all after is.
              let s = node_there custody (over_went old number y [] []) after number y (here old.nodes number y) is in
              let trusted = opens (all number y (here old.nodes number y)) in
              let b = trusted.1 s.kept s.held in
              let was = takes.held trusted.0 b.0 b.1 in
              let before = world_before custody old number x y [] [] there after was.0 in (
                before,
                may_be_before custody old number x y [] [] there after was.0 is was.1,
                record {
                  kept = b.0;
                  held = b.1;
                  returns = subst (Reopening before number b.0 (opened_reply outcome)) (goes_to custody old number x y [] [] there after was.0 s.kept is s.there)
                      (reopening before number x.node y.node was.0 b.0 s.kept outcome (here after.nodes number (with_kept x.node was.0)) stops b.2);
                },
              );
        }))

    -- the same of whatever node is said to be there
    same_node : (n : NodeOver K) → map.get old.nodes number ≡ Some n → x ≡ n
    same_node n at = let both : Some x ≡ Some n = sym there ∙ at in cc

    pub when_running : (n : NodeOver K) → map.get old.nodes number ≡ Some n → IsRunning n.node.state → (outcome : Result ℕ Fault)
        → (IsRunning x.node.state → (y ≡ x) × (outcome ≡ Err (faults.Refused Busy)))
        → (result : Reply) → result ≡ opened_reply outcome → (new ≡ old) × (result ≡ reply.Refused (faults.Refused Busy))
    when_running n at runs outcome alone result e =
        let h = alone (subst (λ (m : NodeOver K). IsRunning m.node.state) (sym (same_node n at)) runs) in
        (left_alone h.0, e ∙ ap opened_reply h.1)

    pub when_stopped : (n : NodeOver K) → map.get old.nodes number ≡ Some n → ¬ IsRunning n.node.state → (Makes : K → K → Type 0)
        → ((m : NodeOver K) (made : K) → map.get old.nodes number ≡ Some m → ¬ IsRunning m.node.state → Makes m.keeper made
        → TakesOver custody m.keeper made)
        → (outcome : Result ℕ Fault)
        → (¬ IsRunning x.node.state → (made : K) × Makes x.keeper made
        × (custody.is_honest y.keeper → custody.is_honest made × Follows (λ k k'. Reopens x.node k outcome y.node k') (custody.may_hold made) (custody.may_hold y.keeper)))
        → (result : Reply) → result ≡ opened_reply outcome
        → (made : K) × Makes n.keeper made × Goes custody old new (ReturnsOver custody made number result)
    when_stopped n at stops Makes trusts outcome opens result e =
        let same = same_node n at in
        let stopped : ¬ IsRunning x.node.state = λ runs. stops (subst (λ (m : NodeOver K). IsRunning m.node.state) same runs) in
        let made = opens stopped in (
          made.0,
          subst (λ (m : NodeOver K). Makes m.keeper made.0) same made.1,
          returns_over made.0 outcome stopped (trusts x made.0 there stopped made.1) made.2 result e,
        )

  module _ (old new : WorldOver K) (number : ℕ) (keeper given : K) (x y : NodeOver K) (there : map.get old.nodes number ≡ Some x)
      (is_new : new ≡ over_went old number y [] []) (outcome : Result ℕ Fault)
      (running : IsRunning x.node.state → (y ≡ x) × (outcome ≡ Err (faults.Refused Busy)) × (given ≡ keeper))
      (handed : ¬ IsRunning x.node.state → given ≡ x.keeper)
      (stopped : ¬ IsRunning x.node.state → custody.is_honest y.keeper
      → custody.is_honest keeper × Follows (λ k k'. Reopens x.node k outcome y.node k') (custody.may_hold keeper) (custody.may_hold y.keeper)) where
    abbrev Reopened : WorldOver K → K → Result ℕ Fault → Type 0
    Reopened now left result = GivesBack custody old keeper now left (λ w k w' k'. Reopening w number k (opened_reply result) w')

    by_running : IsRunning x.node.state → Reopened new given outcome
    by_running runs =
        let h = running runs in
        subst (λ n. Reopened n given outcome) (sym (left_alone old new number x y there is_new h.0))
        (subst (λ left. Reopened old left outcome) (sym h.2)
        (subst (λ result. Reopened old keeper result) (sym h.1) (record {
          honest = λ all left. (all, left);
          comes = λ all left after k' is held. (after, k', is, held, Reopening.running (node_there custody old after number x there is).there runs);
        })))

    by_stopped : ¬ IsRunning x.node.state → Reopened new given outcome
    by_stopped stops = subst (λ n. Reopened n given outcome) (sym is_new) (record {
      honest = λ all left. (
        honest_before custody old number x y [] [] there (λ _. subst custody.is_honest (handed stops) left) all,
        (stopped stops (all number y (here old.nodes number y))).0,
      );
      comes = λ all left after k' is held.
          let s = node_there custody (over_went old number y [] []) after number y (here old.nodes number y) is in
          let b = (stopped stops (all number y (here old.nodes number y))).1 s.kept s.held in
          let before = world_before custody old number x y [] [] there after k' in (
            before,
            b.0,
            may_be_before custody old number x y [] [] there after k' is (subst (λ q. custody.may_hold q k') (handed stops) held),
            b.1,
            subst (Reopening before number b.0 (opened_reply outcome)) (goes_to custody old number x y [] [] there after k' s.kept is s.there)
                (reopening before number x.node y.node k' b.0 s.kept outcome (here after.nodes number (with_kept x.node k')) stops b.2),
          );
    })

    pub reopened : (result : Reply) → result ≡ opened_reply outcome
        → GivesBack custody old keeper new given (λ w k w' k'. Reopening w number k result w')
    reopened result e = subst (λ r. GivesBack custody old keeper new given (λ w k w' k'. Reopening w number k r w')) (sym e) (by_state x.node.state refl)
      where
        by_state : (s : State) → x.node.state ≡ s → Reopened new given outcome
        by_state (Running pending) e = by_running (subst IsRunning (sym e) tt)
        by_state (Stopped doubt) e = by_stopped (subst IsRunning e)

    pub is_spare : given ≡ spare (map.get old.nodes number) keeper
    is_spare = subst (λ o. given ≡ spare o keeper) (sym there) (by_state x.node.state refl)
      where
        by_state : (s : State) → x.node.state ≡ s → given ≡ spare_of x.keeper keeper x.node.state
        by_state (Running pending) e = subst (λ s. given ≡ spare_of x.keeper keeper s) (sym e) (running (subst IsRunning (sym e) tt)).2
        by_state (Stopped doubt) e = subst (λ s. given ≡ spare_of x.keeper keeper s) (sym e) (handed (subst IsRunning e))
