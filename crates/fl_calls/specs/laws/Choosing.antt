-- A world that nodes over keepers may be, where it is known of each keeper what it may hold.
use Rattle.std.proofs.Common.{refl, sym, subst, ℕ, Bool, true, false, cond, List, [], ◌∷◌, map as list_map, Some}
use Rattle.std.specs.FinMap as map
use Rattle.std.specs.FinMap.{find}
use Rattle.std.specs.Ordering.{nat_cmp, eq_by_cmp}
use Rattle.std.proofs.lemmas.Cmp.{nat_cmp_total}
use Rattle.fl_store.specs.Custody.{Custody}
use Rattle.fl_store.specs.Kept.{Kept}
use Rattle.fl_system.specs.World.{World, KeptNode}
use Rattle.fl_node.specs.Over.{NodeOver}
use Rattle.fl_nodes.specs.Over.{WorldOver}
use Rattle.fl_nodes.specs.Goes.{MayBeNode, MayBe}

module _ {K : Type 0} (custody : Custody K) (hold : K → Kept) (holds : (keeper : K) → custody.may_hold keeper (hold keeper)) where
  with_kept : ℕ × NodeOver K → ℕ × KeptNode
  with_kept e = (e.0, record { node = e.1.node; kept = hold e.1.keeper })

  found : (es : List (ℕ × NodeOver K)) (q : ℕ) → MayBeNode custody.may_hold (find nat_cmp q es) (find nat_cmp q (list_map with_kept es))
  unfolding with_kept
  found [] q = tt
  found (e ∷ es) q = by_key (eq_by_cmp nat_cmp q e.0) (found es q)
    where
      by_key : (b : Bool) → MayBeNode custody.may_hold (find nat_cmp q es) (find nat_cmp q (list_map with_kept es))
          → MayBeNode custody.may_hold (cond b (Some e.1) (find nat_cmp q es))
          (cond b (Some (with_kept e).1) (find nat_cmp q (list_map with_kept es)))
      by_key true rest = (refl, holds e.1.keeper)
      by_key false rest = rest

  pub chosen : (over : WorldOver K) → (w : World) × MayBe custody over w
  chosen over =
      let es = map.entries over.nodes in
      let w : World = record {
        desks = over.desks;
        nodes = map.from_entries (list_map with_kept es);
        packets = over.packets;
        audit = over.audit;
      } in (
        w,
        record {
          desks = refl;
          nodes = λ q. subst (λ o. MayBeNode custody.may_hold o (map.get w.nodes q)) (sym (map.get-entries over.nodes q))
              (subst (λ o. MayBeNode custody.may_hold (find nat_cmp q es) o) (sym (map.get-from_entries nat_cmp_total (list_map with_kept es) q)) (found es q));
          packets = refl;
          audit = refl;
        },
      )
