-- What the nodes of a world have against one another, by the entries that hold them.
use Rattle.std.proofs.Common.{◌≡◌, ◌∙◌, refl, sym, subst, ℕ, Option, Some, None}
use Rattle.std.proofs.lemmas.Cmp.{nat_cmp_total}
use Rattle.std.proofs.lemmas.Map.Lookups.{exact_unsigned}
use Rattle.std.proofs.lemmas.Map.Views.{btree_map_get_iff}
use Rattle.std.specs.BTreeMap.{BTreeMap, IsOrdered, is_at}
use Rattle.std.specs.FinMap as map
use Rattle.std.specs.List.{Contains}
use Rattle.std.specs.Map.{lookup}
use Rattle.std.specs.Ordering.{nat_cmp}
use Rattle.fl_labels.specs.SetBy.{SetBy, In}
use Rattle.fl_labels.specs.declared.name.Name.{Name}
use Rattle.fl_ops.specs.OpOrder.{op_cmp}
use Rattle.fl_gossip.specs.Meeting.{FindsLeast, OfSome}
use Rattle.fl_gossip.specs.laws.Leasts.{least_same}
use Rattle.fl_system.specs.Joins.{IsClashAt}
use Rattle.fl_system.specs.World.{World, KeptNode}
use Rattle.fl_node.specs.Over.{NodeOver}
use Rattle.fl_nodes.specs.Over.{WorldOver}
use Rattle.fl_nodes.specs.Goes.{MayBeNode}
use Rattle.fl_joining.specs.Against.{ClashesWith, StraysWith}
use Rattle.fl_nodes.specs.parts.Joined.{AreNodes, IsStrayWith}

-- the node of a world that this one is
record Is {K : Type 0} (n : NodeOver K) (o : Option KeptNode) : Type 0 where
  node : KeptNode
  at : o ≡ Some node
  same : node.node ≡ n.node

-- the node that this one of a world is
record From {K : Type 0} (s : KeptNode) (o : Option (NodeOver K)) : Type 0 where
  node : NodeOver K
  at : o ≡ Some node
  same : s.node ≡ node.node

is_in : {K : Type 0} (n : NodeOver K) (o : Option KeptNode) → MayBeNode (λ keeper k. Unit {0}) (Some n) o → Is n o
is_in n None h = absurd h
is_in n (Some s) h = record { node = s; at = refl; same = h.0 }

is_from : {K : Type 0} (s : KeptNode) (o : Option (NodeOver K)) → MayBeNode (λ keeper k. Unit {0}) o (Some s) → From s o
is_from s None h = absurd h
is_from s (Some n) h = record { node = n; at = refl; same = h.0 }

module _ {K : Type 0} (m : BTreeMap ℕ (NodeOver K)) (ordered : IsOrdered nat_cmp m) (over : WorldOver K)
    (held : (number : ℕ) → lookup (is_at (nat_cmp number)) m.entries ≡ map.get over.nodes number) (w : World) (are : AreNodes over w) where
  in_world : (number : ℕ) (n : NodeOver K) → Contains m.entries (number, n) → Is n (map.get w.nodes number)
  in_world number n c =
      let at : map.get over.nodes number ≡ Some n = sym (held number) ∙ (btree_map_get_iff nat_cmp_total exact_unsigned m ordered number n).1 c in
      is_in n (map.get w.nodes number) (subst (λ o. MayBeNode (λ keeper k. Unit {0}) o (map.get w.nodes number)) at (are number))

  record InMap (number : ℕ) (s : KeptNode) : Type 0 where
    node : NodeOver K
    among : Contains m.entries (number, node)
    same : s.node ≡ node.node

  in_map : (number : ℕ) (s : KeptNode) → map.get w.nodes number ≡ Some s → InMap number s
  in_map number s at =
      let f = is_from s (map.get over.nodes number) (subst (λ o. MayBeNode (λ keeper k. Unit {0}) (map.get over.nodes number) o) at (are number)) in
      record {
        node = f.node;
        among = (btree_map_get_iff nat_cmp_total exact_unsigned m ordered number f.node).0 (held number ∙ f.at);
        same = f.same;
      }

  clash_to : (saved : SetBy op_cmp) (name : Name) → OfSome (ClashesWith saved) m.entries name → IsClashAt w saved name
  clash_to saved name h =
      let c = h.2.clash in
      let s = in_world h.0.0 h.0.1 h.1 in
      record {
        ours = c.ours;
        theirs = c.theirs;
        in_set = c.in_ours;
        in_world = (h.0.0, s.node, s.at, subst (λ n. In n.saved c.theirs) (sym s.same) c.in_theirs);
        our_name = c.our_name;
        their_name = c.their_name;
        differ = c.differ;
      }

  clash_from : (saved : SetBy op_cmp) (name : Name) → IsClashAt w saved name → OfSome (ClashesWith saved) m.entries name
  clash_from saved name c =
      let u = c.in_world in
      let n = in_map u.0 u.1 u.2 in (
        (u.0, n.node),
        n.among,
        record {
          clash = record {
            ours = c.ours;
            theirs = c.theirs;
            in_ours = c.in_set;
            in_theirs = subst (λ n. In n.saved c.theirs) n.same u.3;
            our_name = c.our_name;
            their_name = c.their_name;
            differ = c.differ;
          };
        },
      )

  pub clash_of_world : (saved : SetBy op_cmp) (r : Option Name) → FindsLeast (OfSome (ClashesWith saved) m.entries) r → FindsLeast (IsClashAt w saved) r
  clash_of_world saved r h = least_same (OfSome (ClashesWith saved) m.entries) (IsClashAt w saved) (clash_to saved) (clash_from saved) r h

  module _ (number : ℕ) (saved : SetBy op_cmp) where
    stray_to : (name : Name) → OfSome (StraysWith number saved) m.entries name → IsStrayWith w number saved name
    stray_to name h = by_kind h.2
      where
        s : Is h.0.1 (map.get w.nodes h.0.0)
        s = in_world h.0.0 h.0.1 h.1

        by_kind : StraysWith number saved h.0 name → IsStrayWith w number saved name
        by_kind (StraysWith.brought b) =
            IsStrayWith.brought b.op b.op_name b.in_there (subst (λ q. map.get w.nodes q ≡ Some s.node) (sym b.of) s.at)
            (λ i. b.unknown (subst (λ n. In n.saved b.op) s.same i))
        by_kind (StraysWith.awaited b) =
            IsStrayWith.awaited b.op b.op_name b.of (h.0.0, s.node, s.at, subst (λ n. In n.saved b.op) (sym s.same) b.in_there) b.unknown

    stray_from : (name : Name) → IsStrayWith w number saved name → OfSome (StraysWith number saved) m.entries name
    stray_from name (IsStrayWith.brought op {owner} is in_saved at unknown) =
        let n = in_map op.name.node owner at in (
          (op.name.node, n.node),
          n.among,
          StraysWith.brought (record {
            op = op;
            op_name = is;
            of = refl;
            in_there = in_saved;
            unknown = λ i. unknown (subst (λ n. In n.saved op) (sym n.same) i);
          }),
        )
    stray_from name (IsStrayWith.awaited op is of u unknown) =
        let n = in_map u.0 u.1 u.2 in (
          (u.0, n.node),
          n.among,
          StraysWith.awaited (record {
            op = op;
            op_name = is;
            of = of;
            in_there = subst (λ n. In n.saved op) n.same u.3;
            unknown = unknown;
          }),
        )

    pub stray_of_world : (r : Option Name) → FindsLeast (OfSome (StraysWith number saved) m.entries) r → FindsLeast (IsStrayWith w number saved) r
    stray_of_world r h = least_same (OfSome (StraysWith number saved) m.entries) (IsStrayWith w number saved) stray_to stray_from r h
