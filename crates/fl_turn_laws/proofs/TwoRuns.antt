-- What a second run opens over.
use Rattle.std.proofs.Common.{◌≡◌, ◌∙◌, ◌≤◌, ◌+◌, inl, inr, ℕ, suc, Bool, true, false, cond, List, Option, None, Some, length, refl, sym, ap, subst, arith}
use Rattle.std.proofs.lemmas.List.{take_all}
use Rattle.std.specs.Cmp.{nat_cmp_total, Equal-is}
use Rattle.std.specs.FinMap as map
use Rattle.std.specs.FinMap.{nat_cmp-IsAntisymmetric}
use Rattle.std.specs.Ordering.{nat_cmp, eq_by_cmp}
use Rattle.fl_bench.specs.laws.Puts.{same_found}
use Rattle.fl_labels.specs.SetBy.{In}
use Rattle.fl_store.specs.Custody.{Custody}
use Rattle.fl_store.specs.Kept.{Kept}
use Rattle.fl_stream.specs.Output.{Writes}
use Rattle.fl_makers.specs.Making.{IsOut, Making}
use Rattle.fl_system.specs.Runs.{IsReached, end as end_of}
use Rattle.fl_system.specs.World.{World, KeptNode, empty_world}
use Rattle.fl_node.specs.Over.{NodeOver}
use Rattle.fl_nodes.specs.Goes.{AreHonest, MayBe, MayBeNode}
use Rattle.fl_world.specs.Headline.{IsSafeWorld}
use Rattle.fl_world.specs.Lasting.{IsLastingWorld}
use Rattle.fl_world_laws.specs.laws.Nodes.{at_key}
use Rattle.fl_kept_laws.specs.Told.{IsKeptAt}
use Rattle.fl_calls.specs.Entering.{Openings}
use Rattle.fl_calls.specs.Over.{openings_between, openings_of}
use Rattle.fl_calls.specs.laws.Widening.{OpensMore}
use Rattle.fl_turns.specs.Moments.{moments_before, moments_of}
use Rattle.fl_turns.specs.Over.{SessionOver, TurnsOver, begun_over}
use Rattle.fl_turns.specs.Script.{IsOneRun}
use Rattle.fl_turns.specs.Session.{Session, begun}
use Rattle.fl_turns.specs.laws.Chains.{script_until}
use Rattle.fl_turns.specs.laws.Exchanging.{Spreads, Unites}
use Rattle.fl_turns.specs.laws.Lasting.{run_lasts}
use Rattle.fl_turns.specs.laws.Scripts.{one_run}
use Rattle.fl_turns.specs.laws.Widening.{run_too}
use Rattle.fl_turn_laws.specs.TwoRuns.{IsKeptAtEnd, FoundNext, served, made_again, not_served, HasBack, opened_next, HasAnswered}
use Rattle.fl_turn_laws.proofs.Served.{served_out}

module _ {K M : Type 0} (custody : Custody K) (making : Making M K) (start : M) (lines : List (List ℕ))
    (text : List ℕ) (status : ℕ) (end : SessionOver K M)
    (writes : Writes (TurnsOver custody making) (begun_over start) lines text status end)
    (honest : AreHonest custody end.cluster.world) where
  module _ (w : World) (is : MayBe custody end.cluster.world w) where
    -- the keeper of each node that is served is out
    is_out : (number : ℕ) (n : NodeOver K) → map.get end.cluster.world.nodes number ≡ Some n
        → IsOut making end.cluster.maker number
    is_out number n at =
        by_node (map.get w.nodes number) refl
        (subst (λ o. MayBeNode custody.may_hold o (map.get w.nodes number)) at (is.nodes number))
      where
        by_node : (o : Option KeptNode) → map.get w.nodes number ≡ o → MayBeNode custody.may_hold (Some n) o
            → IsOut making end.cluster.maker number
        by_node None e h = absurd h
        by_node (Some s) e h =
            let done = (script_until custody making start lines writes.outputs end writes.run).each honest w is in
            served_out (IsOut making end.cluster.maker) (openings_between custody making start end.cluster.maker)
            (λ m k found. found.1) lines done.answers (record { world = w; aliases = end.aliases }) done.run number s e

    module _ (number : ℕ) (n : NodeOver K) (at : map.get end.cluster.world.nodes number ≡ Some n) (k : Kept)
        (held : custody.may_hold n.keeper k) where
      held_node : KeptNode
      held_node = record { node = n.node; kept = k }

      held_world : World
      unfolding held_node
      held_world = record w { nodes = map.insert w.nodes number held_node }

      held_at : map.get held_world.nodes number ≡ Some held_node
      unfolding held_world
      held_at = at_key w.nodes number held_node

      is_held : (q : ℕ) (b : Bool) → eq_by_cmp nat_cmp q number ≡ b
          → MayBeNode custody.may_hold (map.get end.cluster.world.nodes q) (map.get held_world.nodes q)
      unfolding held_world held_node
      is_held q true e =
          let same : q ≡ number = nat_cmp-IsAntisymmetric q number ((Equal-is (nat_cmp q number)).0 e) in
          let here = subst (λ o. MayBeNode custody.may_hold (Some n) o) (sym held_at) (refl, held) in
          subst (λ z. MayBeNode custody.may_hold (map.get end.cluster.world.nodes z) (map.get held_world.nodes z)) (sym same)
          (subst (λ o. MayBeNode custody.may_hold o (map.get held_world.nodes number)) (sym at) here)
      is_held q false e =
          subst (λ o. MayBeNode custody.may_hold (map.get end.cluster.world.nodes q) o)
          (sym (map.get-insert nat_cmp_total w.nodes number held_node q
          ∙ ap (λ b. cond b (Some held_node) (map.get w.nodes q)) e))
          (is.nodes q)

      kept_at_end : IsKeptAtEnd custody end number k
      unfolding held_world held_node
      kept_at_end = record {
        world = held_world;
        may_be = record {
          desks = is.desks;
          nodes = λ q. is_held q (eq_by_cmp nat_cmp q number) refl;
          packets = is.packets;
          audit = is.audit;
        };
        node = held_node;
        at = held_at;
        same = refl;
      }

    -- what is found then
    pub found_next : (left : M) → HasBack custody making end left → (number : ℕ) (k : Kept)
        → making.finds left number k → FoundNext custody making end number k
    found_next left back number k found = elim (back number k found) [
      | inl before ↦ by_there (map.get end.cluster.world.nodes number) refl before
      | inr it ↦ served (kept_at_end number it.node it.there k (it.held (honest number it.node it.there)))
    ]
      where
        by_there : (o : Option (NodeOver K)) → map.get end.cluster.world.nodes number ≡ o
            → making.finds end.cluster.maker number k → FoundNext custody making end number k
        by_there None e before = not_served e before
        by_there (Some n) e before = made_again e (is_out number n e k before)

    next_wider : (left : M) → HasBack custody making end left
        → OpensMore (openings_of custody making left) (opened_next custody making end left)
    next_wider left back =
        record { finds = found_next left back; refuses = λ v number fault why. why }

    pub second_run : (left : M) → HasBack custody making end left → (ls : List (List ℕ)) (written : List ℕ)
        (worst : ℕ) (last : SessionOver K M)
        → Writes (TurnsOver custody making) (begun_over left) ls written worst last
        → AreHonest custody last.cluster.world → (v : World) → MayBe custody last.cluster.world v
        → IsOneRun (opened_next custody making end left) ls written worst
        (record { world = v; aliases = last.aliases })
    second_run left back ls written worst last h all v may =
        let one = (one_run custody making left ls written worst last h).each all v may in
        record {
          outputs = one.outputs;
          answered = record {
            answers = one.answered.answers;
            run = run_too (openings_of custody making left) (opened_next custody making end left)
                (next_wider left back) begun ls one.answered.answers _ one.answered.run;
            outputs_are = one.answered.outputs_are;
          };
          text_is = one.text_is;
          status_is = one.status_is;
        }

  -- what is kept then has what was answered
  pub answered_is_kept : ((w : World) → IsReached w → IsSafeWorld w)
      → ((w : World) → IsReached w → IsLastingWorld w) → Spreads → Unites
      → (number : ℕ) (k : Kept) (it : IsKeptAtEnd custody end number k)
      → HasAnswered (openings_of custody making start) lines text status
      (record { world = it.world; aliases = end.aliases }) number k
  answered_is_kept safe lasting spreads unites number k it =
      let one = (one_run custody making start lines text status end writes).each honest it.world it.may_be in
      let lasts = run_lasts safe lasting spreads unites (openings_of custody making start) lines
      one.answered.answers
      (record { world = it.world; aliases = end.aliases }) one.answered.run in
      let ms = moments_of lasts.turns in
      record {
        run = record { one_run = one; lasts = lasts };
        has = λ place t name there told.
            let before = moments_before lasts.turns (suc place) in
            let j = before + length ms in
            let late : before ≤ j = omega arith in
            let all : length ms ≤ j = omega arith in
            let h = lasts.lasts.answered.kept place j number name t there told late in
            let there_ = subst (λ x. IsKeptAt x number h.0)
            (ap (end_of (empty_world 1)) (take_all j ms all) ∙ lasts.leads) h.3 in (
              h.0,
              h.1,
              subst (λ (x : Kept). In x.saved h.0)
                  (ap (λ (s : KeptNode). s.kept) (same_found there_.at it.at) ∙ it.same) there_.kept,
            );
      }
