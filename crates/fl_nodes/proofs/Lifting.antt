-- From a call of one node to a step of the world.
use Rattle.std.proofs.Common.{◌≡◌, ◌∙◌, refl, sym, ap, subst, ℕ, Bool, true, false, cond, List, ◌++◌, Option, Some, None}
use Rattle.std.specs.Cmp.{Equal-is}
use Rattle.std.specs.FinMap as map
use Rattle.std.specs.FinMap.{nat_cmp-IsAntisymmetric}
use Rattle.std.specs.Ordering.{nat_cmp, eq_by_cmp}
use Rattle.std.proofs.lemmas.Cmp.{nat_cmp_total}
use Rattle.fl_mailbox.specs.laws.Tables.{get_put, put_over, put_same}
use Rattle.fl_store.specs.Custody.{Custody}
use Rattle.fl_store.specs.Kept.{Kept}
use Rattle.fl_store.specs.Keeping.{Follows}
use Rattle.fl_system.specs.declared.admission.Admission.{Admission}
use Rattle.fl_system.specs.declared.sent.Sent.{Sent}
use Rattle.fl_system.specs.State.{NodeState}
use Rattle.fl_system.specs.World.{World, KeptNode, went}
use Rattle.fl_system.specs.WorldSteps.{IsAt}
use Rattle.fl_node.specs.Over.{NodeOver}
use Rattle.fl_nodes.specs.Over.{WorldOver}
use Rattle.fl_nodes.specs.Goes.{MayBeNode, MayBe, AreHonest, Goes}

-- with this node of this number, after these packets were sent and these things admitted
abbrev pub over_went : {K : Type 0} → WorldOver K → ℕ → NodeOver K → List Sent → List Admission → WorldOver K
over_went w number n sent admitted =
    record w {
      nodes = map.insert w.nodes number n;
      packets = w.packets ++ sent;
      audit = w.audit ++ admitted;
    }

-- a node with what is kept of it
abbrev pub with_kept : NodeState → Kept → KeptNode
with_kept node kept = record { node = node; kept = kept }

-- another number has what it had
pub at_other : {X : Type 0} (m : map.FinMap nat_cmp X) (number q : ℕ) (x : X) → eq_by_cmp nat_cmp q number ≡ false
    → map.get (map.insert m number x) q ≡ map.get m q
at_other m number q x e = map.get-insert nat_cmp_total m number x q ∙ ap (λ b. cond b (Some x) (map.get m q)) e

pub here : {X : Type 0} (m : map.FinMap nat_cmp X) (number : ℕ) (x : X) → map.get (map.insert m number x) number ≡ Some x
here m number x = get_put nat_cmp_total nat_cmp-IsAntisymmetric m number x

pub same_number : (q number : ℕ) → eq_by_cmp nat_cmp q number ≡ true → q ≡ number
same_number q number e = nat_cmp-IsAntisymmetric q number ((Equal-is (nat_cmp q number)).0 e)

some_same : {X : Type 0} {x y : X} → ◌≡◌ {A = Option X} (Some x) (Some y) → x ≡ y
some_same h = cc

module _ {K : Type 0} (custody : Custody K) where
  -- nothing changes
  pub stays : (over : WorldOver K) (step : World → World → Type 0) → ((w : World) → MayBe custody over w → step w w)
      → Goes custody over over step
  stays over step h = record { honest = λ all. all; comes = λ all after is. (after, is, h after is) }

  -- what is not there is in no world that it may be
  none_there : (o : Option KeptNode) → MayBeNode custody.may_hold None o → o ≡ None
  none_there None h = refl
  none_there (Some s) h = absurd h

  pub no_node : (over : WorldOver K) (w : World) (number : ℕ) → map.get over.nodes number ≡ None → MayBe custody over w
      → map.get w.nodes number ≡ None
  no_node over w number none is = none_there _ (subst (λ o. MayBeNode custody.may_hold o (map.get w.nodes number)) none (is.nodes number))

  -- the node that stands there
  pub record StandsAs (n : NodeOver K) (o : Option KeptNode) : Type 0 where
    pub kept : Kept
    pub there : o ≡ Some (with_kept n.node kept)
    pub held : custody.may_hold n.keeper kept

  stands : (n : NodeOver K) (o : Option KeptNode) → MayBeNode custody.may_hold (Some n) o → StandsAs n o
  stands n None h = absurd h
  stands n (Some s) h = record { kept = s.kept; there = λ i. Some (with_kept (h.0 i) s.kept); held = h.1 }

  pub node_there : (over : WorldOver K) (w : World) (number : ℕ) (n : NodeOver K) → map.get over.nodes number ≡ Some n
      → MayBe custody over w → StandsAs n (map.get w.nodes number)
  node_there over w number n there is = stands n _ (subst (λ o. MayBeNode custody.may_hold o (map.get w.nodes number)) there (is.nodes number))

  module _ (old : WorldOver K) (number : ℕ) (x y : NodeOver K) (sent : List Sent) (admitted : List Admission)
      (there : map.get old.nodes number ≡ Some x) where
    pub honest_before : (custody.is_honest y.keeper → custody.is_honest x.keeper) → AreHonest custody (over_went old number y sent admitted) → AreHonest custody old
    honest_before back all q n at = by_place (eq_by_cmp nat_cmp q number) refl
      where
        by_place : (b : Bool) → eq_by_cmp nat_cmp q number ≡ b → custody.is_honest n.keeper
        by_place true e =
            let same : x ≡ n = some_same (sym there ∙ ap (map.get old.nodes) (sym (same_number q number e)) ∙ at) in
            subst (λ (m : NodeOver K). custody.is_honest m.keeper) same (back (all number y (here old.nodes number y)))
        by_place false e = all q n (at_other old.nodes number q y e ∙ at)

    -- the world before the call, where this was kept of the node
    abbrev pub world_before : World → Kept → World
    world_before after k = record {
      desks = old.desks;
      nodes = map.insert after.nodes number (with_kept x.node k);
      packets = old.packets;
      audit = old.audit;
    }

    before_at : (after : World) (k : Kept) → MayBe custody (over_went old number y sent admitted) after → custody.may_hold x.keeper k
        → (q : ℕ) → MayBeNode custody.may_hold (map.get old.nodes q) (map.get (map.insert after.nodes number (with_kept x.node k)) q)
    before_at after k is held q = by_place (eq_by_cmp nat_cmp q number) refl
      where
        by_place : (b : Bool) → eq_by_cmp nat_cmp q number ≡ b
            → MayBeNode custody.may_hold (map.get old.nodes q) (map.get (map.insert after.nodes number (with_kept x.node k)) q)
        by_place true e =
            let at : q ≡ number = same_number q number e in
            subst (λ p. MayBeNode custody.may_hold (map.get old.nodes p) (map.get (map.insert after.nodes number (with_kept x.node k)) p)) (sym at)
            (subst (λ o. MayBeNode custody.may_hold o (map.get (map.insert after.nodes number (with_kept x.node k)) number)) (sym there)
            (subst (λ o. MayBeNode custody.may_hold (Some x) o) (sym (here after.nodes number (with_kept x.node k))) (refl, held)))
        by_place false e =
            subst (λ o. MayBeNode custody.may_hold (map.get old.nodes q) o) (sym (at_other after.nodes number q (with_kept x.node k) e))
            (subst (λ o. MayBeNode custody.may_hold o (map.get after.nodes q)) (at_other old.nodes number q y e) (is.nodes q))

    pub may_be_before : (after : World) (k : Kept) → MayBe custody (over_went old number y sent admitted) after → custody.may_hold x.keeper k
        → MayBe custody old (world_before after k)
    may_be_before after k is held = record { desks = refl; nodes = before_at after k is held; packets = refl; audit = refl }

    -- that world goes on to the one after the call
    pub goes_to : (after : World) (k k' : Kept) → MayBe custody (over_went old number y sent admitted) after
        → map.get after.nodes number ≡ Some (with_kept y.node k')
        → went (world_before after k) number y.node k' sent admitted ≡ after
    goes_to after k k' is at =
        let nodes : map.insert (map.insert after.nodes number (with_kept x.node k)) number (with_kept y.node k') ≡ after.nodes =
        put_over nat_cmp_total nat_cmp-IsAntisymmetric after.nodes number (with_kept x.node k) (with_kept y.node k')
        ∙ put_same nat_cmp_total nat_cmp-IsAntisymmetric after.nodes number (with_kept y.node k') at in
        λ i. record {
          desks = (sym is.desks) i;
          nodes = nodes i;
          packets = (sym is.packets) i;
          audit = (sym is.audit) i;
        }

    -- a call of a node, by what it leaves of the node and of what is kept
    pub lifts : (new : WorldOver K) (leaves : Kept → Kept → Type 0) (step : World → World → Type 0)
        → new ≡ over_went old number y sent admitted
        → (custody.is_honest y.keeper → custody.is_honest x.keeper × Follows leaves (custody.may_hold x.keeper) (custody.may_hold y.keeper))
        → ((w : World) (k k' : Kept) → IsAt w number (with_kept x.node k) → MayBe custody old w → leaves k k'
        → step w (went w number y.node k' sent admitted))
        → Goes custody old new step
    lifts new leaves step is_new call steps = subst (λ n. Goes custody old n step) (sym is_new) (record {
      honest = honest_before (λ honest. (call honest).0);
      comes = λ all after is.
          let s = node_there (over_went old number y sent admitted) after number y (here old.nodes number y) is in
          let b = (call (all number y (here old.nodes number y))).1 s.kept s.held in (
            world_before after b.0,
            may_be_before after b.0 is b.1,
            subst (step (world_before after b.0)) (goes_to after b.0 s.kept is s.there)
                (steps (world_before after b.0) b.0 s.kept (here after.nodes number (with_kept x.node b.0)) (may_be_before after b.0 is b.1) b.2),
          );
    })

    -- a call that leaves the keeper
    pub lifts_kept : (new : WorldOver K) (step : World → World → Type 0) → new ≡ over_went old number y sent admitted
        → y.keeper ≡ x.keeper
        → ((w : World) (k : Kept) → IsAt w number (with_kept x.node k) → MayBe custody old w
        → step w (went w number y.node k sent admitted))
        → Goes custody old new step
    lifts_kept new step is_new same steps = lifts new (λ k k'. k' ≡ k) step is_new
        (λ honest. (subst custody.is_honest same honest, λ k held. (k, subst (λ keeper. custody.may_hold keeper k) same held, refl)))
        (λ w k k' at is e. subst (λ after. step w (went w number y.node after sent admitted)) (sym e) (steps w k at is))
