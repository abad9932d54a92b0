-- Nodes that are none are one world.
use Rattle.std.proofs.Common.{◌≡◌, ◌∙◌, ℕ, refl, sym, subst, Option, Some, None}
use Rattle.std.specs.Cmp.{nat_cmp_total}
use Rattle.std.specs.FinMap as map
use Rattle.std.specs.FinMap.{nat_cmp-IsAntisymmetric}
use Rattle.std.specs.Ordering.{nat_cmp}
use Rattle.fl_store.specs.Custody.{Custody}
use Rattle.fl_system.specs.World.{World, KeptNode, empty_world}
use Rattle.fl_node.specs.Over.{NodeOver}
use Rattle.fl_nodes.specs.Goes.{MayBeNode, MayBe}
use Rattle.fl_nodes.specs.Over.{empty_over}

none_there : {K : Type 0} (custody : Custody K) (o : Option KeptNode) → MayBeNode custody.may_hold None o → o ≡ None
none_there custody None h = refl
none_there custody (Some s) h = absurd h

same_at : {K : Type 0} (custody : Custody K) (desks : ℕ) (w : World) → MayBe custody (empty_over desks) w → (q : ℕ)
    → map.get (map.empty {X = KeptNode} {R = nat_cmp}) q ≡ map.get w.nodes q
same_at {K} custody desks w is q =
    let none = none_there custody (map.get w.nodes q)
    (subst (λ o. MayBeNode custody.may_hold o (map.get w.nodes q)) (map.get-empty {X = NodeOver K} nat_cmp q) (is.nodes q)) in
    map.get-empty {X = KeptNode} nat_cmp q ∙ sym none

-- nodes that are none may be the world without a node, and no other
pub none_is : {K : Type 0} (custody : Custody K) (desks : ℕ) (w : World) → MayBe custody (empty_over desks) w
    → empty_world desks ≡ w
none_is custody desks w is =
    let nodes : map.empty ≡ w.nodes =
    map.same_map nat_cmp_total nat_cmp-IsAntisymmetric map.empty w.nodes (same_at custody desks w is) in
    λ i. record { desks = (sym is.desks) i; nodes = nodes i; packets = (sym is.packets) i; audit = (sym is.audit) i }
