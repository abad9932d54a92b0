-- The operations of a node, and their names.
use Rattle.std.proofs.Common.{◌≡◌, ◌≤◌, ◌<◌, ◌+◌, ◌∙◌, sym, ap, ℕ, [], ◌∷◌, subst, arith, Result, Err}
use Rattle.std.proofs.Common.{inl, inr}
use Rattle.std.specs.Cmp.{Equal-is}
use Rattle.std.proofs.lemmas.Bool.{or_cases, false≢true}
use Rattle.fl_labels.specs.SetBy.{SetBy, In, of_list, empty, contains-insert, contains-empty}
use Rattle.fl_labels.specs.declared.name.Name.{Name}
use Rattle.fl_ops.specs.declared.op.Op.{Op}
use Rattle.fl_ops.specs.OpOrder.{op_cmp}
use Rattle.fl_ops.specs.OpLaws.{op_total, op_exact}
use Rattle.fl_store.specs.Kept.{Kept, AreNew}
use Rattle.fl_system.specs.Naming.{IsLast, IsNextAfter}

-- the last name, where it is known to be this one
pub is_last : {s : SetBy op_cmp} {node last n : ℕ} → last ≡ n → ((op : Op) → In s op → op.name.node ≡ node → op.name.seq ≤ last) → (0 < last → (op : Op) × In s op × (op.name.node ≡ node) × (op.name.seq ≡ last)) → IsLast s node n
is_last {s} {node} {last} {n} e upper reached = subst (λ x. IsLast s node x) e (record { upper = upper; reached = reached })

-- the one operation of a list of one
in_one : (x a : Op) → In (of_list {R = op_cmp} (x ∷ [])) a → a ≡ x
in_one x a h = elim (or_cases _ _ (sym (contains-insert op_total empty x a) ∙ h)) [
  | inl e ↦ op_exact a x ((Equal-is (op_cmp a x)).0 e)
  | inr none ↦ absurd (false≢true (sym (contains-empty op_cmp a) ∙ none))
]

-- the next name is new
pub new_name : (saved : SetBy op_cmp) (number : ℕ) (op : Op) → IsNextAfter saved number op.name → AreNew (op ∷ []) saved
new_name saved number op next = record {
  distinct = λ a b has_a has_b e. in_one op a has_a ∙ sym (in_one op b has_b);
  unused = λ a b has_a has_b e.
      let same : op.name ≡ b.name = ap (λ (o : Op). o.name) (sym (in_one op a has_a)) ∙ e in
      let below : b.name.seq ≤ next.last = next.is_last.upper b has_b (ap (λ (n : Name). n.node) (sym same) ∙ next.node_is) in
      let above : b.name.seq ≡ next.last + 1 = ap (λ (n : Name). n.seq) (sym same) ∙ next.seq_is in
      omega arith;
}

pub err_same : {T E : Type 0} {x y : E} → ◌≡◌ {A = Result T E} (Err x) (Err y) → x ≡ y
err_same h = cc

-- any operation is new where nothing is saved
pub new_in_nothing : (op : Op) → AreNew (op ∷ []) empty
new_in_nothing op = record {
  distinct = λ a b has_a has_b e. in_one op a has_a ∙ sym (in_one op b has_b);
  unused = λ a b has_a has_b e. false≢true (sym (contains-empty op_cmp b) ∙ has_b);
}

pub new_alone : (op : Op) (k : Kept) → k.saved ≡ empty → AreNew (op ∷ []) k.saved
new_alone op k none = subst (AreNew (op ∷ [])) (sym none) (new_in_nothing op)
