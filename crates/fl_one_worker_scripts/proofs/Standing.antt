-- Crews and the nodes that they stand for, and what both have against a newcomer.
use Rattle.std.proofs.Common.{◌≡◌, ◌∙◌, ◌⊎◌, inl, inr, refl, sym, subst, ℕ, [], Option}
use Rattle.std.proofs.Common.{Some, None}
use Rattle.std.proofs.lemmas.List.{append-nil}
use Rattle.std.specs.FinMap as fin
use Rattle.fl_bench.specs.laws.Puts.{none_some}
use Rattle.fl_labels.specs.SetBy.{In, SetBy}
use Rattle.fl_labels.specs.declared.name.Name.{Name}
use Rattle.fl_gossip.specs.Meeting.{IsStrayOf}
use Rattle.fl_ops.specs.OpOrder.{op_cmp}
use Rattle.fl_store.specs.Kept.{Kept, raised}
use Rattle.fl_system.specs.Joins.{IsClashAt, IsStray, joined}
use Rattle.fl_system.specs.Openings.{opened}
use Rattle.fl_system.specs.World.{KeptNode, World}
use Rattle.fl_system.specs.WorldSteps.{IsAt}
use Rattle.fl_world_laws.specs.laws.Nodes.{Now, Stays, at_key, is_new, is_old, is_replaced, is_still}
use Rattle.fl_world_laws.specs.laws.Nodes.{now, stays_there}
use Rattle.fl_nodes.specs.Joining.{HasNoStray}
use Rattle.fl_workers.specs.Over.{CrewOver}
use Rattle.fl_crew_calls.specs.Joining.{ClashesAt, StraysAt}
use Rattle.fl_crew_calls.specs.Over.{CrewsOver, IsCrewAt, IsUnopened, with_crew}
use Rattle.fl_one_worker_calls.specs.Crews.{AreTied, IsWorldOf}
use Rattle.fl_one_worker_calls.specs.Worlds.{IsElsewhere, Stands, packets_in}
use Rattle.fl_one_worker_calls.proofs.Serving.{stays_tied}

pub some_same : {A : Type 0} (x y : A) → ◌≡◌ {A = Option A} (Some x) (Some y) → x ≡ y
some_same x y h = cc

-- where a crew is there is a node that has saved what the crew has, and no other
abbrev pub SavedTied : {K : Type 0} → Option (Option (CrewOver K)) → Option KeptNode → Type 0
SavedTied None None = Unit {0}
SavedTied None (Some s) = ⊥
SavedTied (Some None) _ = ⊥
SavedTied (Some (Some crew)) None = ⊥
SavedTied (Some (Some crew)) (Some s) = s.node.saved ≡ crew.node.node.saved

-- so it is of all crews, and all nodes of the world
pub record SaveAlike {K M : Type 0} (crews : CrewsOver K M) (w : World) : Type 0 where
  pub nodes : (number : ℕ) → SavedTied (fin.get crews.crews number) (fin.get w.nodes number)

module _ {K : Type 0} where
  -- a crew that has saved what the node has
  record CrewFor (place : Option (Option (CrewOver K))) (s : KeptNode) : Type 0 where
    pub crew : CrewOver K
    pub there : place ≡ Some (Some crew)
    pub saved : s.node.saved ≡ crew.node.node.saved

  crew_for : (s : KeptNode) (place : Option (Option (CrewOver K))) (node : Option KeptNode)
      → node ≡ Some s → SavedTied place node → CrewFor place s
  crew_for s None None is h = absurd (cc)
  crew_for s None (Some its) is h = absurd h
  crew_for s (Some None) node is h = absurd h
  crew_for s (Some (Some crew)) None is h = absurd h
  crew_for s (Some (Some crew)) (Some its) is h =
      let same : its ≡ s = cc in
      record {
        crew = crew;
        there = refl;
        saved = subst (λ (t : KeptNode). t.node.saved ≡ crew.node.node.saved) same h;
      }

  saved_tied : (place : Option (Option (CrewOver K))) (node : Option KeptNode)
      → AreTied place node → SavedTied place node
  saved_tied None None h = tt
  saved_tied None (Some s) h = h
  saved_tied (Some None) node h = h
  saved_tied (Some (Some crew)) None h = h
  saved_tied (Some (Some crew)) (Some s) h = h.is_node.crew.holds.saved

  -- and the node of a crew
  record NodeFor (crew : CrewOver K) (node : Option KeptNode) : Type 0 where
    pub place : KeptNode
    pub there : node ≡ Some place
    pub saved : place.node.saved ≡ crew.node.node.saved

  node_for : (crew : CrewOver K) (place : Option (Option (CrewOver K))) (node : Option KeptNode)
      → place ≡ Some (Some crew) → SavedTied place node → NodeFor crew node
  node_for crew None node is h = absurd (cc)
  node_for crew (Some None) node is h = absurd h
  node_for crew (Some (Some its)) None is h = absurd h
  node_for crew (Some (Some its)) (Some s) is h =
      let same : its ≡ crew = cc in
      record {
        place = s;
        there = refl;
        saved = subst (λ (c : CrewOver K). s.node.saved ≡ c.node.node.saved) same h;
      }

  none_tied : (place : Option (Option (CrewOver K))) (node : Option KeptNode) → place ≡ None
      → SavedTied place node → node ≡ None
  none_tied None None is h = refl
  none_tied None (Some its) is h = absurd h
  none_tied (Some place) node is h = absurd (cc)

module _ {K M : Type 0} where
  -- a crew that was there still is, where another is put
  pub put_still : (crews : CrewsOver K M) (number : ℕ) (its : CrewOver K) → IsUnopened crews number
      → (q : ℕ) (crew : CrewOver K) → IsCrewAt crews q crew
      → IsCrewAt (with_crew crews number its) q crew
  put_still crews number its none q crew there =
      by_stay (stays_there crews.crews number (Some its) q (Some crew) there)
    where
      by_stay : Stays crews.crews number (Some its) q (Some crew)
          → IsCrewAt (with_crew crews number its) q crew
      by_stay (is_replaced is) =
          absurd (none_some none
          (subst (λ (p : ℕ). fin.get crews.crews p ≡ Some (Some crew)) is there))
      by_stay (is_still at) = at

  -- with another crew of that number, another node, and another maker, where nothing is sent
  pub placed_tied : (crews : CrewsOver K M) (w w' : World) (number : ℕ) (crew : CrewOver K)
      (left : M)
      → IsWorldOf crews w → Stands w' number crew → IsElsewhere number w w'
      → packets_in w' ≡ packets_in w
      → IsWorldOf (with_crew (record crews { maker = left }) number crew) w'
  placed_tied crews w w' number crew left h stands elsewhere packets =
      let it =
      stays_tied crews w w' number crew [] h stands elsewhere
      (packets ∙ sym (append-nil (packets_in w))) in
      record {
        desks = it.desks;
        workers = it.workers;
        nodes = it.nodes;
        packets = packets ∙ h.packets;
      }

  -- so it is of crews of one worker and their world
  pub save_alike : (crews : CrewsOver K M) (w : World) → IsWorldOf crews w → SaveAlike crews w
  save_alike crews w h = record {
    nodes = λ number. saved_tied (fin.get crews.crews number) (fin.get w.nodes number)
        (h.nodes number);
  }

module _ {K M : Type 0} (crews : CrewsOver K M) (w : World) (alike : SaveAlike crews w) where
  -- where no crew is there is no node
  pub no_node : (number : ℕ) → IsUnopened crews number → fin.get w.nodes number ≡ None
  no_node number none =
      none_tied (fin.get crews.crews number) (fin.get w.nodes number) none (alike.nodes number)

  crew_at : (number : ℕ) (s : KeptNode) → IsAt w number s → CrewFor (fin.get crews.crews number) s
  crew_at number s at =
      crew_for s (fin.get crews.crews number) (fin.get w.nodes number) at (alike.nodes number)

  node_at : (number : ℕ) (crew : CrewOver K) → IsCrewAt crews number crew
      → NodeFor crew (fin.get w.nodes number)
  node_at number crew at =
      node_for crew (fin.get crews.crews number) (fin.get w.nodes number) at (alike.nodes number)

  -- ---- clashes with what these have saved

  pub clash_there : (saved : SetBy op_cmp) (name : Name) → ClashesAt crews saved name
      → IsClashAt w saved name
  clash_there saved name c =
      let at = node_at c.number c.crew c.there in
      record {
        ours = c.clash.ours;
        theirs = c.clash.theirs;
        in_set = c.clash.in_ours;
        in_world = (
          c.number,
          at.place,
          at.there,
          subst (λ (x : SetBy op_cmp). In x c.clash.theirs) (sym at.saved)
              c.clash.in_theirs,
        );
        our_name = c.clash.our_name;
        their_name = c.clash.their_name;
        differ = c.clash.differ;
      }

  pub clash_from : (saved : SetBy op_cmp) (name : Name) → IsClashAt w saved name
      → ClashesAt crews saved name
  clash_from saved name c =
      let its = crew_at c.in_world.0 c.in_world.1 c.in_world.2 in
      record {
        number = c.in_world.0;
        crew = its.crew;
        there = its.there;
        clash = record {
          ours = c.ours;
          theirs = c.theirs;
          in_ours = c.in_set;
          in_theirs =
              subst (λ (x : SetBy op_cmp). In x c.theirs) its.saved
              c.in_world.3;
          our_name = c.our_name;
          their_name = c.their_name;
          differ = c.differ;
        };
      }

  -- ---- strays between these and the newcomer

  module _ (number : ℕ) (k : Kept) where
    abbrev newcomer : KeptNode
    newcomer = record { node = opened w.desks k; kept = raised k }

    still_at : fin.get w.nodes number ≡ None → (q : ℕ) (s : KeptNode) → IsAt w q s
        → IsAt (joined w number k) q s
    still_at none q s at = by_stay (stays_there w.nodes number newcomer q s at)
      where
        by_stay : Stays w.nodes number newcomer q s → IsAt (joined w number k) q s
        by_stay (is_replaced is) =
            absurd (none_some none (subst (λ (p : ℕ). fin.get w.nodes p ≡ Some s) is at))
        by_stay (is_still there) = there

    pub strays_from : HasNoStray w → (name : Name) → IsStray (joined w number k) name
        → StraysAt crews number k.saved name
    strays_from no_stray name x =
        by_places x.in_world.0 x.in_world.1 x.in_world.3
        (now w.nodes number newcomer x.in_world.0 x.in_world.1 x.in_world.2)
        (now w.nodes number newcomer x.op.name.node x.owner x.there)
      where
        by_places : (p : ℕ) (t : KeptNode) → In t.node.saved x.op
            → Now w.nodes number newcomer p t
            → Now w.nodes number newcomer x.op.name.node x.owner
            → StraysAt crews number k.saved name
        by_places p t has (is_new is same) (is_new too same_too) =
            absurd (x.unknown
            (subst (λ (y : KeptNode). In y.node.saved x.op) (sym same ∙ same_too) has))
        by_places p t has (is_new is same) (is_old other at) =
            let its = crew_at x.op.name.node x.owner at in
            record {
              other = x.op.name.node;
              crew = its.crew;
              there = its.there;
              stray = inl (record {
                op = x.op;
                op_name = x.op_name;
                of = refl;
                in_there = subst (λ (y : KeptNode). In y.node.saved x.op) (sym same) has;
                unknown = λ i.
                    x.unknown
                    (subst (λ (y : SetBy op_cmp). In y x.op)
                    (sym its.saved) i);
              });
            }
        by_places p t has (is_old other at) (is_new is same) =
            let its = crew_at p t at in
            record {
              other = p;
              crew = its.crew;
              there = its.there;
              stray = inr (record {
                op = x.op;
                op_name = x.op_name;
                of = is;
                in_there =
                    subst (λ (y : SetBy op_cmp). In y x.op)
                    its.saved has;
                unknown = λ i.
                    x.unknown (subst (λ (y : KeptNode). In y.node.saved x.op) same i);
              });
            }
        by_places p t has (is_old other at) (is_old more there) =
            absurd (no_stray name (record {
              op = x.op;
              op_name = x.op_name;
              in_world = (p, t, at, has);
              owner = x.owner;
              there = there;
              unknown = x.unknown;
            }))

    pub strays_to : fin.get w.nodes number ≡ None → (name : Name)
        → StraysAt crews number k.saved name → IsStray (joined w number k) name
    strays_to none name x =
        let at = node_at x.other x.crew x.there in
        by_kind at.place at.saved (still_at none x.other at.place at.there)
        x.stray
      where
        by_kind : (place : KeptNode) → place.node.saved ≡ x.crew.node.node.saved
            → IsAt (joined w number k) x.other place
            → IsStrayOf (In k.saved) (In x.crew.node.node.saved) x.other name
            ⊎ IsStrayOf (In x.crew.node.node.saved) (In k.saved) number name
            → IsStray (joined w number k) name
        by_kind place saved still (inl s) = record {
          op = s.op;
          op_name = s.op_name;
          in_world = (number, newcomer, at_key w.nodes number newcomer, s.in_there);
          owner = place;
          there = subst (λ (q : ℕ). IsAt (joined w number k) q place) (sym s.of) still;
          unknown = λ i. s.unknown (subst (λ (y : SetBy op_cmp). In y s.op) saved i);
        }
        by_kind place saved still (inr s) = record {
          op = s.op;
          op_name = s.op_name;
          in_world = (
            x.other,
            place,
            still,
            subst (λ (y : SetBy op_cmp). In y s.op) (sym saved) s.in_there,
          );
          owner = newcomer;
          there =
              subst (λ (q : ℕ). IsAt (joined w number k) q newcomer) (sym s.of)
              (at_key w.nodes number newcomer);
          unknown = s.unknown;
        }
