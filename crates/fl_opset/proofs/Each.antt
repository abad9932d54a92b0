-- Whether each operation of other nodes is one of these.
use Rattle.std.proofs.Common.{◌≡◌, inl, inr, ℕ, ◌+◌, ◌<◌, ◌≤◌, Bool, true, false, List, length, get_or, take, refl, sym, subst, Option, Some, None, is_some}
use Rattle.std.specs.List.{Contains}
use Rattle.std.proofs.lemmas.List.{take_all}
use Rattle.std.proofs.lemmas.List.Elements.{Contains-append_cases}
use Rattle.fl_labels.specs.Found.{Found, Tells, Within}
use Rattle.fl_labels.specs.SetBy.{SetBy, In, of_list}
use Rattle.fl_ops.specs.declared.op.Op.{Op}
use Rattle.fl_ops.specs.OpOrder.{op_cmp}
use Rattle.fl_ops.specs.Registry.{Listed}
use Rattle.fl_opset.specs.declared.node_ops.NodeOps.{NodeOps}
use Rattle.fl_opset.specs.ByNode.{all_ops, AreByNode}
use Rattle.fl_opset.specs.laws.Members.{listed_in}
use Rattle.fl_opset.proofs.ByNode.{all_more, in_all, own_node}

-- the entry of another node, which the walk reads, and these operations of that node
module _ (all others : List NodeOps) (i : ℕ) (it : NodeOps) (ops these : List Op) (found : Option Op) (inside : i < length others) (is : it ≡ get_or others i it) (same : ops ≡ it.ops.items)
    (tells : Found op_cmp (In (of_list {R = op_cmp} ops)) (In (of_list {R = op_cmp} these)) found) where
  pub more_within : is_some found ≡ false → ((op : Op) → Contains these op → Contains (all_ops all) op)
      → Within (Listed (all_ops (take i others))) (Listed (all_ops all)) → Within (Listed (all_ops (take (i + 1) others))) (Listed (all_ops all))
  more_within none only before op c = elim (Contains-append_cases (all_ops (take i others)) it.ops.items op (subst (λ l. Contains l op) (all_more others i it inside is) c)) [
    | inl old ↦ before op old
    | inr new ↦ only op (here found tells none op new)
  ]
    where
      here : (r : Option Op) → Found op_cmp (In (of_list {R = op_cmp} ops)) (In (of_list {R = op_cmp} these)) r → is_some r ≡ false → (x : Op) → Contains it.ops.items x → Contains these x
      here None f e x c = (listed_in these _ refl x).1 (f.is x ((listed_in ops _ refl x).0 (subst (λ l. Contains l x) (sym same) c)))
      here (Some y) f e x c = absurd (cc)

  pub not_within : is_some found ≡ true → AreByNode others → ((op : Op) → Contains (all_ops all) op → op.name.node ≡ it.node → Contains these op)
      → Tells false (Within (Listed (all_ops others)) (Listed (all_ops all)))
  not_within some by whole = go found tells some
    where
      go : (r : Option Op) → Found op_cmp (In (of_list {R = op_cmp} ops)) (In (of_list {R = op_cmp} these)) r → is_some r ≡ true → Tells false (Within (Listed (all_ops others)) (Listed (all_ops all)))
      go None f e = absurd (cc)
      go (Some x) f e =
          let c = subst (λ l. Contains l x) same ((listed_in ops _ refl x).1 f.is.member) in
          record {
            holds = λ told. absurd (cc);
            fails = λ told within. f.is.lacking ((listed_in these _ refl x).0 (whole x (within x (in_all others i it x inside is c)) (own_node others i it x by inside is c)));
          }

pub all_within : (all others : List NodeOps) (i : ℕ) → length others ≤ i → Within (Listed (all_ops (take i others))) (Listed (all_ops all))
    → Tells true (Within (Listed (all_ops others)) (Listed (all_ops all)))
all_within all others i done h = record {
  holds = λ told. subst (λ l. Within (Listed (all_ops l)) (Listed (all_ops all))) (take_all i others done) h;
  fails = λ told. absurd (cc);
}

-- so the walk tells of the sets
pub members_within : (xs ys : List Op) (s t : SetBy op_cmp) (b : Bool) → of_list xs ≡ s → of_list ys ≡ t → Tells b (Within (Listed ys) (Listed xs)) → Tells b (Within (In t) (In s))
members_within xs ys s t b s_is t_is h = record {
  holds = λ told op c. (listed_in xs s s_is op).0 (h.holds told op ((listed_in ys t t_is op).1 c));
  fails = λ told within. h.fails told (λ op c. (listed_in xs s s_is op).1 (within op ((listed_in ys t t_is op).0 c)));
}
