-- Keepers that are given back, one after another.
use Rattle.std.proofs.Common.{◌≡◌, ◌∙◌, ℕ, Bool, true, false, cond, refl, sym, ap, subst, Option, Some, None}
use Rattle.std.specs.FinMap as map
use Rattle.std.specs.FinMap.{get-remove}
use Rattle.std.specs.Option.{option_map}
use Rattle.std.specs.Ordering.{eq_by_cmp, nat_cmp}
use Rattle.std.proofs.lemmas.Cmp.{nat_cmp_total}
use Rattle.fl_store.specs.Custody.{Custody}
use Rattle.fl_store.specs.Kept.{Kept}
use Rattle.fl_node.specs.Over.{NodeOver}
use Rattle.fl_nodes.specs.Closing.{GivesOut}
use Rattle.fl_calls.specs.Closing.{IsLeftAt}
use Rattle.fl_calls.specs.Over.{ClusterOver}

-- what is left once one was removed was there before
unremoved : {X : Type 0} (b : Bool) (o : Option X) (x : X) → cond b None o ≡ Some x → o ≡ Some x
unremoved true o x e = absurd (cc)
unremoved false o x e = e

pub still_there : {X : Type 0} (m m' : map.FinMap nat_cmp X) (k q : ℕ) (x : X) → m' ≡ map.remove m k
    → map.get m' q ≡ Some x → map.get m q ≡ Some x
still_there m m' k q x is at =
    unremoved (eq_by_cmp nat_cmp q k) (map.get m q) x
    (sym (get-remove nat_cmp_total m k q) ∙ ap (λ l. map.get l q) (sym is) ∙ at)

module _ {K M : Type 0} (custody : Custody K) (over : ClusterOver K M) (k : Kept) where
  of_node : (number : ℕ) (keeper : K) (held : custody.is_honest keeper → custody.may_hold keeper k)
      (found : Option (NodeOver K)) → option_map (λ n. n.keeper) found ≡ Some keeper
      → ((n : NodeOver K) → found ≡ Some n → map.get over.world.nodes number ≡ Some n)
      → IsLeftAt custody over number k
  of_node number keeper held None kept there = absurd (cc)
  of_node number keeper held (Some n) kept there =
      let same : n.keeper ≡ keeper = cc in
      record {
        node = n;
        there = there n refl;
        held = subst (λ (x : K). custody.is_honest x → custody.may_hold x k) (sym same) held;
      }

  pub left_by : (keepers keepers' : map.FinMap nat_cmp (NodeOver K)) (number : ℕ) (keeper : K)
      → GivesOut keepers keepers' number keeper
      → ((q : ℕ) (n : NodeOver K) → map.get keepers q ≡ Some n
      → map.get over.world.nodes q ≡ Some n)
      → (custody.is_honest keeper → custody.may_hold keeper k) → IsLeftAt custody over number k
  left_by keepers keepers' number keeper gives there held =
      of_node number keeper held (map.get keepers number) gives.kept (there number)
