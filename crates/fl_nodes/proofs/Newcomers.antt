-- A node that joins the others, or not, as a step of the world.
use Rattle.std.proofs.Common.{◌≡◌, ◌∙◌, ◌⊎◌, ◌<◌, ◌+◌, inl, inr, refl, sym, ap, subst, ℕ, Bool, true, false, cond, List, [], ◌++◌, Option, Some, None, Result, Ok, Err}
use Rattle.std.proofs.lemmas.Cmp.{nat_cmp_total}
use Rattle.std.proofs.lemmas.List.{append-nil}
use Rattle.std.specs.BTreeMap.{is_at}
use Rattle.std.specs.Cmp.{tied_itself}
use Rattle.std.specs.Map.{lookup}
use Rattle.std.specs.Prelude.{IfErr, IsErrAnd, is_some}
use Rattle.std.specs.FinMap as map
use Rattle.std.specs.FinMap.{nat_cmp-IsAntisymmetric, same_map}
use Rattle.std.specs.Ordering.{nat_cmp, eq_by_cmp, is_eq}
use Rattle.fl_mailbox.specs.laws.Tables.{one_put}
use Rattle.fl_labels.specs.SetBy.{In}
use Rattle.fl_labels.specs.declared.name.Name.{Name}
use Rattle.fl_gossip.specs.Meeting.{IsLeastOf}
use Rattle.fl_jobs.specs.declared.answer.Refusal.TheVariants.{Memory}
use Rattle.fl_store.specs.Custody.{Custody}
use Rattle.fl_store.specs.Kept.{Kept, HasNamesOnce, raised}
use Rattle.fl_store.specs.Keeping.{Follows}
use Rattle.fl_system.specs.declared.admission.Admission.{Admission}
use Rattle.fl_system.specs.declared.sent.Sent.{Sent}
use Rattle.fl_system.specs.declared.answer.Fault.{Fault}
use Rattle.fl_system.specs.declared.answer.Fault.TheVariants as faults
use Rattle.fl_system.specs.declared.reply.Reply.TheVariants as reply
use Rattle.fl_system.specs.Joins.{IsClashAt, IsLeastName, IsStray, Joins, joined}
use Rattle.fl_system.specs.Openings.{FailsToOpen, IsOf, Opens, opened}
use Rattle.fl_system.specs.State.{NodeState}
use Rattle.fl_system.specs.World.{World, KeptNode}
use Rattle.fl_node.specs.Over.{NodeOver}
use Rattle.fl_nodes.specs.Over.{WorldOver}
use Rattle.fl_nodes.specs.Goes.{AreHonest, MayBe, MayBeNode}
use Rattle.fl_nodes.specs.Joining.{DoesJoin, DoesNotJoin, GivesBack, HasNoStray, IsRefused, LeftBy, TakesIn}
use Rattle.fl_nodes.specs.parts.Joined.{AreNodes, IsStrayWith, over_with}
use Rattle.fl_nodes.proofs.Entries.{of_entries}
use Rattle.fl_nodes.proofs.Lifting.{at_other, here, no_node, node_there, same_number, with_kept}

-- ---- the map

pub some_none : {A : Type 0} (x : A) → ◌≡◌ {A = Option A} (Some x) None → ⊥
some_none x h = cc

pub some_is : {A : Type 0} (x y : A) → ◌≡◌ {A = Option A} (Some x) (Some y) → x ≡ y
some_is x y h = cc

-- ---- openings

record IsOpening (desks number : ℕ) (k : Kept) (n : NodeState) (k' : Kept) : Type 0 where
  own : k.number ≡ number
  boot_left : k.boot < 4294967295
  node_is : n ≡ opened desks k
  up : k' ≡ raised k

opening_of : (desks number : ℕ) (k : Kept) (n : NodeState) (k' : Kept) → Opens desks (IsOf number) k (Ok n) k' → IsOpening desks number k n k'
opening_of desks number k n k' (Opens.opens own left) = record { own = own; boot_left = left; node_is = refl; up = refl }

left_as : (number : ℕ) (k k' : Kept) (fault : Fault) → FailsToOpen (IsOf number) k fault → (k' ≡ k) ⊎ (k' ≡ raised k) → LeftBy fault k k'
left_as number k k' fault FailsToOpen.no_room h = h
left_as number k k' fault FailsToOpen.keeper_failed h = h
left_as number k k' fault (FailsToOpen.other e) h = h

left_by : (desks number : ℕ) (k k' : Kept) (fault : Fault) → Opens desks (IsOf number) k (Err fault) k' → LeftBy fault k k'
left_by desks number k k' fault (Opens.spent own all) = refl
left_by desks number k k' fault (Opens.refused cause left) = left_as number k k' fault cause left

least_name : (P : Name → Type 0) (name : Name) → IsLeastOf P name → IsLeastName P name
least_name P name h = record { holds = h.holds; least = h.least }

is_node : {K : Type 0} (custody : Custody K) (a : Option (NodeOver K)) (b : Option KeptNode) → MayBeNode custody.may_hold a b → MayBeNode (λ keeper k. Unit {0}) a b
is_node custody None None h = tt
is_node custody (Some n) (Some s) h = (h.0, tt)
is_node custody None (Some s) h = absurd h
is_node custody (Some n) None h = absurd h

module _ {K : Type 0} (custody : Custody K) where
  are_nodes : (over : WorldOver K) (w : World) → MayBe custody over w → AreNodes over w
  are_nodes over w is number = is_node custody _ _ (is.nodes number)

  -- the number is a node's
  pub refused_there : (old new : WorldOver K) (number : ℕ) (keeper : K) (x : NodeOver K) → new ≡ old → map.get old.nodes number ≡ Some x
      → GivesBack custody old keeper new keeper (DoesNotJoin number faults.WrongNode)
  refused_there old new number keeper x same there =
      subst (λ n. GivesBack custody old keeper n keeper (DoesNotJoin number faults.WrongNode)) (sym same) (record {
        honest = λ all left. (all, left);
        comes = λ all left after k' is held. (
          after,
          k',
          is,
          held,
          λ known. record {
            same = refl;
            joins = Joins.there (node_there custody old after number x there is).there;
            left = inl refl;
          },
        );
      })

  module _ (old : WorldOver K) (count : ℕ) (desks : old.desks ≡ count) (number : ℕ) (keeper : K) (none : map.get old.nodes number ≡ None) where
    -- the opening is refused
    pub refused_opening : (new : WorldOver K) → new ≡ old → (given : K) (fault : Fault)
        → (custody.is_honest given → custody.is_honest keeper × Follows (λ k k'. Opens count (IsOf number) k (Err fault) k') (custody.may_hold keeper) (custody.may_hold given))
        → GivesBack custody old keeper new given (DoesNotJoin number fault)
    refused_opening new same given fault call =
        subst (λ n. GivesBack custody old keeper n given (DoesNotJoin number fault)) (sym same) (record {
          honest = λ all left. (all, (call left).0);
          comes = λ all left after k' is held.
              let b = (call left).1 k' held in (
                after,
                b.0,
                is,
                b.1,
                λ known. record {
                  same = refl;
                  joins = Joins.not_opened (no_node custody old after number none is)
                      (subst (λ d. Opens d (IsOf number) b.0 (Err fault) k') (sym (is.desks ∙ desks)) b.2);
                  left = left_by count number b.0 k' fault b.2;
                },
              );
        })

    module _ (y : NodeOver K)
        (opens : custody.is_honest y.keeper → custody.is_honest keeper × Follows (λ k k'. Opens count (IsOf number) k (Ok y.node) k') (custody.may_hold keeper) (custody.may_hold y.keeper)) where
      -- it was opened, and refused then
      refused_after : (fault : Fault)
          → ((w : World) (k k' : Kept) → MayBe custody old w → map.get w.nodes number ≡ None → IsOpening count number k y.node k' → HasNoStray w → IsRefused number fault w k w k')
          → GivesBack custody old keeper old y.keeper (DoesNotJoin number fault)
      refused_after fault refuses = record {
        honest = λ all left. (all, (opens left).0);
        comes = λ all left after k' is held.
            let b = (opens left).1 k' held in (
              after,
              b.0,
              is,
              b.1,
              refuses after b.0 k' is (no_node custody old after number none is) (opening_of count number b.0 y.node k' b.2),
            );
      }

      pub refused_clash : (new : WorldOver K) → new ≡ old → (given : K) → given ≡ y.keeper → (name : Name)
          → ((w : World) → AreNodes old w → IsLeastOf (IsClashAt w y.node.saved) name)
          → GivesBack custody old keeper new given (DoesNotJoin number (faults.Clash name))
      refused_clash new same given is_given name least =
          subst (λ n. GivesBack custody old keeper n given (DoesNotJoin number (faults.Clash name))) (sym same)
          (subst (λ g. GivesBack custody old keeper old g (DoesNotJoin number (faults.Clash name))) (sym is_given)
          (refused_after (faults.Clash name) (λ w k k' is absent o known. record {
            same = refl;
            joins = Joins.clash absent o.own o.boot_left (subst (λ n. IsLeastName (IsClashAt w n.saved) name) o.node_is
                (least_name (IsClashAt w y.node.saved) name (least w (are_nodes old w is))));
            left = o.up;
          })))

      pub refused_memory : (new : WorldOver K) → new ≡ old → (given : K) → given ≡ y.keeper → (fault : Fault) → fault ≡ faults.Refused Memory
          → GivesBack custody old keeper new given (DoesNotJoin number fault)
      refused_memory new same given is_given fault is_fault =
          subst (λ n. GivesBack custody old keeper n given (DoesNotJoin number fault)) (sym same)
          (subst (λ g. GivesBack custody old keeper old g (DoesNotJoin number fault)) (sym is_given)
          (subst (λ f. GivesBack custody old keeper old y.keeper (DoesNotJoin number f)) (sym is_fault)
          (refused_after (faults.Refused Memory) (λ w k k' is absent o known. record {
            same = refl;
            joins = Joins.not_opened absent (Opens.refused {left = k'} FailsToOpen.no_room (inr o.up));
            left = inr o.up;
          }))))

      -- the newcomer
      abbrev newcomer : World → Kept → KeptNode
      newcomer w k = record { node = opened w.desks k; kept = raised k }

      -- where no node knows less than another of its own operations, the strays in the world with the new node are those with it
      strays_from : (w : World) (k : Kept) → HasNoStray w → (name : Name) → IsStray (joined w number k) name → IsStrayWith w number k.saved name
      strays_from w k known name stray = by_place (eq_by_cmp nat_cmp stray.in_world.0 number) (eq_by_cmp nat_cmp stray.op.name.node number) refl refl
        where
          -- what stands under the number is the new node
          new_there : (p : ℕ) (t : KeptNode) → eq_by_cmp nat_cmp p number ≡ true → map.get (map.insert w.nodes number (newcomer w k)) p ≡ Some t → newcomer w k ≡ t
          new_there p t e at = some_is (newcomer w k) t (sym (here w.nodes number (newcomer w k)) ∙ ap (map.get (map.insert w.nodes number (newcomer w k))) (sym (same_number p number e)) ∙ at)

          old_there : (p : ℕ) (t : KeptNode) → eq_by_cmp nat_cmp p number ≡ false → map.get (map.insert w.nodes number (newcomer w k)) p ≡ Some t → map.get w.nodes p ≡ Some t
          old_there p t e at = sym (at_other w.nodes number p (newcomer w k) e) ∙ at

          by_place : (b d : Bool) → eq_by_cmp nat_cmp stray.in_world.0 number ≡ b → eq_by_cmp nat_cmp stray.op.name.node number ≡ d → IsStrayWith w number k.saved name
          by_place true true e f =
              let source = new_there stray.in_world.0 stray.in_world.1 e stray.in_world.2 in
              let owner = new_there stray.op.name.node stray.owner f stray.there in
              absurd (stray.unknown (subst (λ (t : KeptNode). In t.node.saved stray.op) (sym source ∙ owner) stray.in_world.3))
          by_place true false e f =
              let source = new_there stray.in_world.0 stray.in_world.1 e stray.in_world.2 in
              IsStrayWith.brought stray.op stray.op_name (subst (λ (t : KeptNode). In t.node.saved stray.op) (sym source) stray.in_world.3)
              (old_there stray.op.name.node stray.owner f stray.there) stray.unknown
          by_place false true e f =
              let owner = new_there stray.op.name.node stray.owner f stray.there in
              IsStrayWith.awaited stray.op stray.op_name (same_number stray.op.name.node number f)
              (stray.in_world.0, stray.in_world.1, old_there stray.in_world.0 stray.in_world.1 e stray.in_world.2, stray.in_world.3)
              (λ i. stray.unknown (subst (λ (t : KeptNode). In t.node.saved stray.op) owner i))
          by_place false false e f = absurd (known name (record {
            op = stray.op;
            op_name = stray.op_name;
            in_world = (stray.in_world.0, stray.in_world.1, old_there stray.in_world.0 stray.in_world.1 e stray.in_world.2, stray.in_world.3);
            owner = stray.owner;
            there = old_there stray.op.name.node stray.owner f stray.there;
            unknown = stray.unknown;
          }))

      strays_to : (w : World) (k : Kept) → map.get w.nodes number ≡ None → (name : Name) → IsStrayWith w number k.saved name → IsStray (joined w number k) name
      strays_to w k absent name stray = by_kind stray
        where
          still : (p : ℕ) (t : KeptNode) → map.get w.nodes p ≡ Some t → map.get (map.insert w.nodes number (newcomer w k)) p ≡ Some t
          still p t at = by_place (eq_by_cmp nat_cmp p number) refl
            where
              by_place : (b : Bool) → eq_by_cmp nat_cmp p number ≡ b → map.get (map.insert w.nodes number (newcomer w k)) p ≡ Some t
              by_place true e = absurd (some_none t (sym at ∙ ap (map.get w.nodes) (same_number p number e) ∙ absent))
              by_place false e = at_other w.nodes number p (newcomer w k) e ∙ at

          by_kind : IsStrayWith w number k.saved name → IsStray (joined w number k) name
          by_kind (IsStrayWith.brought op {owner} is in_saved at unknown) = record {
            op = op;
            op_name = is;
            in_world = (number, newcomer w k, here w.nodes number (newcomer w k), in_saved);
            owner = owner;
            there = still op.name.node owner at;
            unknown = unknown;
          }
          by_kind (IsStrayWith.awaited op is of u unknown) = record {
            op = op;
            op_name = is;
            in_world = (u.0, u.1, still u.0 u.1 u.2, u.3);
            owner = newcomer w k;
            there = subst (λ p. map.get (map.insert w.nodes number (newcomer w k)) p ≡ Some (newcomer w k)) (sym of) (here w.nodes number (newcomer w k));
            unknown = unknown;
          }

      module _ (clear : (w : World) → AreNodes old w → (name : Name) → ¬ IsClashAt w y.node.saved name) where
        clear_of : (w : World) (k k' : Kept) → AreNodes old w → IsOpening count number k y.node k' → (name : Name) → ¬ IsClashAt w k.saved name
        clear_of w k k' are o = subst (λ n. (name : Name) → ¬ IsClashAt w n.saved name) o.node_is (clear w are)

        least_stray : (w : World) (k : Kept) → HasNoStray w → map.get w.nodes number ≡ None → (name : Name)
            → IsLeastOf (IsStrayWith w number k.saved) name → IsLeastName (IsStray (joined w number k)) name
        least_stray w k known absent name h = record {
          holds = strays_to w k absent name h.holds;
          least = λ other stray. h.least other (strays_from w k known other stray);
        }

        pub refused_stray : (new : WorldOver K) → new ≡ old → (given : K) → given ≡ y.keeper → (name : Name)
            → ((w : World) → AreNodes old w → IsLeastOf (IsStrayWith w number y.node.saved) name)
            → GivesBack custody old keeper new given (DoesNotJoin number (faults.Impostor name))
        refused_stray new same given is_given name least =
            subst (λ n. GivesBack custody old keeper n given (DoesNotJoin number (faults.Impostor name))) (sym same)
            (subst (λ g. GivesBack custody old keeper old g (DoesNotJoin number (faults.Impostor name))) (sym is_given)
            (refused_after (faults.Impostor name) (λ w k k' is absent o known. record {
              same = refl;
              joins = Joins.impostor absent o.own o.boot_left (clear_of w k k' (are_nodes old w is) o)
                  (least_stray w k known absent name
                  (subst (λ n. IsLeastOf (IsStrayWith w number n.saved) name) o.node_is (least w (are_nodes old w is))));
              left = o.up;
            })))

        -- the world before
        abbrev without : World → World
        without after = record {
          desks = old.desks;
          nodes = map.remove after.nodes number;
          packets = old.packets;
          audit = old.audit;
        }

        gone : (m : map.FinMap nat_cmp KeptNode) → map.get (map.remove m number) number ≡ None
        gone m = map.get-remove nat_cmp_total m number number ∙ ap (λ b. cond b None (map.get m number)) (itself number)
          where
            itself : (q : ℕ) → eq_by_cmp nat_cmp q q ≡ true
            itself q = ap is_eq (tied_itself nat_cmp_total q)

        others : (m : map.FinMap nat_cmp KeptNode) (q : ℕ) → eq_by_cmp nat_cmp q number ≡ false → map.get (map.remove m number) q ≡ map.get m q
        others m q e = map.get-remove nat_cmp_total m number q ∙ ap (λ b. cond b None (map.get m q)) e

        nodes_before : (after : World) → MayBe custody (over_with old number y) after → (q : ℕ)
            → MayBeNode custody.may_hold (map.get old.nodes q) (map.get (map.remove after.nodes number) q)
        nodes_before after is q = by_place (eq_by_cmp nat_cmp q number) refl
          where
            by_place : (b : Bool) → eq_by_cmp nat_cmp q number ≡ b → MayBeNode custody.may_hold (map.get old.nodes q) (map.get (map.remove after.nodes number) q)
            by_place true e =
                subst (λ p. MayBeNode custody.may_hold (map.get old.nodes p) (map.get (map.remove after.nodes number) p)) (sym (same_number q number e))
                (subst (λ o. MayBeNode custody.may_hold o (map.get (map.remove after.nodes number) number)) (sym none)
                (subst (λ o. MayBeNode custody.may_hold None o) (sym (gone after.nodes)) tt))
            by_place false e =
                subst (λ o. MayBeNode custody.may_hold (map.get old.nodes q) o) (sym (others after.nodes q e))
                (subst (λ o. MayBeNode custody.may_hold o (map.get after.nodes q)) (at_other old.nodes number q y e) (is.nodes q))

        may_be_without : (after : World) → MayBe custody (over_with old number y) after → MayBe custody old (without after)
        may_be_without after is = record { desks = refl; nodes = nodes_before after is; packets = refl; audit = refl }

        put_back : (m : map.FinMap nat_cmp KeptNode) (s : KeptNode) → map.get m number ≡ Some s → map.insert (map.remove m number) number s ≡ m
        put_back m s at = same_map nat_cmp_total nat_cmp-IsAntisymmetric _ _ (λ q. by_place q (eq_by_cmp nat_cmp q number) refl)
          where
            by_place : (q : ℕ) (b : Bool) → eq_by_cmp nat_cmp q number ≡ b → map.get (map.insert (map.remove m number) number s) q ≡ map.get m q
            by_place q true e =
                subst (λ p. map.get (map.insert (map.remove m number) number s) p ≡ map.get m p) (sym (same_number q number e))
                (here (map.remove m number) number s ∙ sym at)
            by_place q false e = at_other (map.remove m number) number q s e ∙ others m q e

        goes_on : (after : World) (k k' : Kept) → MayBe custody (over_with old number y) after → IsOpening count number k y.node k'
            → map.get after.nodes number ≡ Some (with_kept y.node k') → joined (without after) number k ≡ after
        goes_on after k k' is o at =
            let s : KeptNode = record { node = opened old.desks k; kept = raised k } in
            let node_is : opened old.desks k ≡ y.node = ap (λ d. opened d k) desks ∙ sym o.node_is in
            let there : map.get after.nodes number ≡ Some s = at ∙ (λ i. Some (record { node = sym node_is i; kept = o.up i })) in
            let nodes : map.insert (map.remove after.nodes number) number s ≡ after.nodes = put_back after.nodes s there in
            let packets : old.packets ++ [] ≡ after.packets = append-nil old.packets ∙ sym is.packets in
            let audit : old.audit ++ [] ≡ after.audit = append-nil old.audit ∙ sym is.audit in
            λ i. record { desks = sym is.desks i; nodes = nodes i; packets = packets i; audit = audit i }

        honest_without : AreHonest custody (over_with old number y) → AreHonest custody old
        honest_without all q n at = by_place (eq_by_cmp nat_cmp q number) refl
          where
            by_place : (b : Bool) → eq_by_cmp nat_cmp q number ≡ b → custody.is_honest n.keeper
            by_place true e = absurd (none_some (sym none ∙ ap (map.get old.nodes) (sym (same_number q number e)) ∙ at))
              where
                none_some : ◌≡◌ {A = Option (NodeOver K)} None (Some n) → ⊥
                none_some h = cc
            by_place false e = all q n (at_other old.nodes number q y e ∙ at)

        pub takes_in : (new : WorldOver K) → new ≡ over_with old number y → (boot : ℕ) → boot ≡ y.node.boot → HasNamesOnce y.node.saved
            → ((w : World) → AreNodes old w → (name : Name) → ¬ IsStrayWith w number y.node.saved name)
            → TakesIn custody old keeper new (DoesJoin number boot)
        takes_in new is_new boot is_boot names strays =
            subst (λ n. TakesIn custody old keeper n (DoesJoin number boot)) (sym is_new) (record {
              honest = λ all. (honest_without all, (opens (all number y (here old.nodes number y))).0);
              comes = λ all after is.
                  let s = node_there custody (over_with old number y) after number y (here old.nodes number y) is in
                  let b = (opens (all number y (here old.nodes number y))).1 s.kept s.held in
                  let o = opening_of count number b.0 y.node s.kept b.2 in
                  let before = without after in
                  let is_before = may_be_without after is in (
                    before,
                    b.0,
                    is_before,
                    b.1,
                    λ known. subst (λ r. Joins before number b.0 (reply.Booted r) after) (sym (is_boot ∙ ap (λ n. n.boot) o.node_is))
                        (subst (Joins before number b.0 (reply.Booted (b.0.boot + 1))) (goes_on after b.0 s.kept is o s.there)
                        (Joins.joins (gone after.nodes) o.own o.boot_left (subst (λ n. HasNamesOnce n.saved) o.node_is names)
                        (clear_of before b.0 s.kept (are_nodes old before is_before) o)
                        (λ name stray. subst (λ n. (name : Name) → ¬ IsStrayWith before number n.saved name) o.node_is
                        (strays before (are_nodes old before is_before)) name (strays_from before b.0 known name stray)))),
                  );
            })

-- what a `?` hands on
pub handed_on : {T E : Type 0} (r : Result T E) (P : E → Type 0) (e : E) → IsErrAnd r (λ f. f ≡ e) → P e → IfErr r P
handed_on (Ok x) P e h p = tt
handed_on (Err f) P e h p = subst P (sym h) p

-- ---- the map

pub record IsThere {A : Type 0} (o : Option A) : Type 0 where
  pub what : A
  pub is : o ≡ Some what

pub is_there : {A : Type 0} (o : Option A) (b : Bool) → b ≡ is_some o → b ≡ true → IsThere o
is_there None b e h = absurd (cc)
is_there (Some x) b e h = record { what = x; is = refl }

pub is_not_there : {A : Type 0} (o : Option A) (b : Bool) → b ≡ is_some o → b ≡ false → o ≡ None
is_not_there None b e h = refl
is_not_there (Some x) b e h = absurd (cc)

module _ {K : Type 0} {desks : ℕ} (es fs : List (ℕ × NodeOver K)) (packets : List Sent) (audit : List Admission) (w : WorldOver K)
    (is : of_entries desks es packets audit ≡ w) (number : ℕ) where
  -- a node was put
  pub added : (y : NodeOver K)
      → ((q : ℕ) → lookup (is_at (nat_cmp q)) fs ≡ cond (is_at (nat_cmp number) q) (Some y) (lookup (is_at (nat_cmp q)) es))
      → of_entries desks fs packets audit ≡ over_with w number y
  added y h =
      let nodes = one_put nat_cmp_total nat_cmp-IsAntisymmetric es fs w.nodes number y (ap (λ (t : WorldOver K). t.nodes) is) h in
      λ i. record {
        desks = (ap (λ (t : WorldOver K). t.desks) is) i;
        nodes = nodes i;
        packets = (ap (λ (t : WorldOver K). t.packets) is) i;
        audit = (ap (λ (t : WorldOver K). t.audit) is) i;
      }
